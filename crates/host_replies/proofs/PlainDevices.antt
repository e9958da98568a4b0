-- Devices whose numbers have the widths of document 01's fields (`Plain`): a new one is such a device, and so is the one that a call finds on such a device; and of a list in order on the largest device, each of its entries
-- can be put in a record. Assumes nothing.
use mathlib.Core.Path.{refl, sym, subst}
use mathlib.Core.Bool.{Bool, true, false}
use mathlib.Core.List.{List, [], ◌∷◌}
use Prim.Native.Nat.{ℕ, ◌+◌, ◌^◌, ◌≤◌, ◌<◌}
use native.Mathlib.Omega.{arith}
use lib.ListN.{get_or-replicate}
use Rattle.poison.specs.Runs.{end, Chain}
use Rattle.poison.specs.State.{Entry, shape, shapes, capacity, Typed}
use Rattle.events.specs.Log.{LogState, new, no_log, log_at}
use Rattle.events.specs.Emptied.{emptied}
use Rattle.settings.specs.Media.{due}
use Rattle.mailbox.specs.State.{DeviceState}
use Rattle.mailbox.specs.Ending.{ended, logs_left}
use Rattle.mailbox.specs.DeviceCalls.{new_device}
use Rattle.host_replies.specs.DeviceReplies.{PlainLog, Recordable, Plain}
use Rattle.poison.proofs.Laws.{chain_length}
use Rattle.events.proofs.Laws.{emptied_at}

pub recordable : (lo hi : ℕ) (es : List Entry) → Chain lo hi (shapes es) → hi ≤ capacity → Typed es → Recordable es
recordable lo hi [] c h t = tt
recordable lo hi (e ∷ es) c h t =
    let l = chain_length (end (shape e)) hi es c.2 in
    (omega arith, t.0, recordable (end (shape e)) hi es c.2 h t.1)

plain_log : (s : LogState) → PlainLog (emptied s)
plain_log s = record { size = λ i l. absurd (omega arith); overflow = omega arith; first = omega arith; last = omega arith }

pub plain_new : (volatile persistent : ℕ) → volatile + persistent < 256 ^ 8 → Plain (new_device volatile persistent)
plain_new volatile persistent small =
    record {
      units = small;
      policy = refl;
      logs = λ k l. subst PlainLog (sym (get_or-replicate 5 k new no_log l)) (plain_log new);
      list = record { time = omega arith; entries = tt };
    }

-- where a due Sanitize is ended, its logs are emptied (document 02, W-207)
pub plain_ended : (d : DeviceState) (time : ℕ) → Plain d → Plain (ended d time)
plain_ended d time p =
    record {
      units = p.units;
      policy = p.policy;
      logs = λ k l. by_end (due d.media time) k l;
      list = p.list;
    }
  where
    by_end : (b : Bool) (k : ℕ) → k < 5 → PlainLog (log_at (logs_left b d.logs) k)
    by_end true k l = subst PlainLog (sym (emptied_at d.logs k)) (plain_log (log_at d.logs k))
    by_end false k l = p.logs k l
