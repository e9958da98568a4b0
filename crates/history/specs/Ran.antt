-- A run of the code: a device handed from call to call, each call answered as its contract in crate `mailbox` says, and the paper written beside it from the
-- calls and the numbers that the code answered. Assumes nothing.
use Rattle.std.specs.Prelude.{ℕ, ◌≡◌, false, List, [], ◌∷◌, ◌++◌, take}
use Rattle.poison.specs.Paper.{Paper, blank_paper}
use Rattle.mailbox.specs.State.{state_of}
use Rattle.mailbox.specs.declared.device.Device.{Device}
use Rattle.mailbox.specs.declared.device.Answer.{Answer}
use Rattle.mailbox.specs.DeviceCalls.{make}
use Rattle.history.specs.Calls.{Call, step}
use Rattle.history.specs.Paper.{write}
use Rattle.history.specs.Damage.{clears}

-- the code was given device d and a call, answered a number, and left device e: what each contract gives (`command_steps`, `event_steps`, `media_steps`,
-- `line_steps`, `status_steps`, `total_steps`, `pool_steps` of proofs/Ran.antt)
pub record Steps (d e : Device) (c : Call) (code : ℕ) : Type 0 where
  pub number : code ≡ (step (state_of d) c).code
  pub next : state_of e ≡ (step (state_of d) c).next

-- the reply that a command wrote: as many bytes of the lent buffer as the answer's length says
abbrev pub reply_in : (buffer : List ℕ) → Answer → List ℕ
reply_in buffer answer = take answer.length buffer

-- device d and paper w after a list of calls of the code on the device that make handed out for v and p
pub data Ran (v p : ℕ) : List Call → Device → Paper → Type 0 where
  made : (cs : List Call) (d : Device) (w : Paper) → cs ≡ [] → state_of d ≡ (make v p).next → w ≡ blank_paper → Ran v p cs d w
  called : (bs cs : List Call) (d e : Device) (w x : Paper) → Ran v p bs d w → (c : Call) (code : ℕ) → Steps d e c code
      → cs ≡ bs ++ (c ∷ []) → x ≡ write w c code → Ran v p cs e x

-- calls of the code lead from device d to device e, and none of them, with the number that it answered, cleared line k
pub data Spared (k : ℕ) (d : Device) : Device → Type 0 where
  none : (e : Device) → e ≡ d → Spared k d e
  more : (e f : Device) → Spared k d e → (c : Call) (code : ℕ) → Steps e f c code → clears c code k ≡ false → Spared k d f
