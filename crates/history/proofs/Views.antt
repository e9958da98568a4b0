-- Devices for views: for every view of the device a value of the code's type that stands for it, valid where the view is. For proofs/SomeBuild.antt.
-- Assumes nothing.
use Prim.Native.Nat.{ℕ}
use mathlib.Core.Path.{◌≡◌, refl, ap}
use mathlib.Core.List.{List, [], ◌∷◌, map}
use native.Mathlib.Omega.{arith}
use lib.ListN.{length, take, get_or-map, length-take}
use Rattle.poison.specs.State as Poison
use Rattle.poison.specs.State.{Entry, PoisonState, entries_in}
use Rattle.poison.specs.declared.list.PoisonList.{PoisonList}
use Rattle.events.specs.Log as Log
use Rattle.events.specs.Log.{LogState, ValidState}
use Rattle.events.specs.declared.log.Log as Declared
use Rattle.mailbox.specs.State.{DeviceState, ValidDevice, state_of}
use Rattle.mailbox.specs.declared.device.Device.{Device}
use Rattle.history.proofs.Lasting.{Holding}

-- ---- a device of the code for a view
-- a log that stands for a log's view
log_of : LogState → Declared.Log
log_of s =
    record {
      records = map (λ bytes. record { bytes = bytes }) s.held;
      count = length s.held;
      next = s.next;
      overflow_count = s.overflow_count;
      first_overflow = s.first_overflow;
      last_overflow = s.last_overflow;
    }

-- its records, its whole view
held_again : (hs : List (List ℕ)) → map Log.bytes_of (take (length hs) (map (λ bytes. record { bytes = bytes }) hs)) ≡ hs
held_again [] = refl
held_again (h ∷ hs) = ap (λ r. h ∷ r) (held_again hs)

log_again : (s : LogState) → Log.state_of (log_of s) ≡ s
unfolding log_of
log_again s =
    λ i. record { held = held_again s.held i; next = s.next; overflow_count = s.overflow_count; first_overflow = s.first_overflow; last_overflow = s.last_overflow }

-- a list that stands for a list's view
list_of : PoisonState → PoisonList
list_of s =
    record {
      starts = map (λ (e : Entry). e.start) s.entries;
      lengths = map (λ (e : Entry). e.lines) s.entries;
      kinds = map (λ (e : Entry). e.kind) s.entries;
      count = length s.entries;
      overflow = s.overflow;
      overflow_time = s.overflow_time;
    }

-- its entries, its whole view
entries_again : (es : List Entry) → entries_in (length es) (map (λ (e : Entry). e.start) es) (map (λ (e : Entry). e.lines) es) (map (λ (e : Entry). e.kind) es) ≡ es
entries_again [] = refl
entries_again (e ∷ es) = ap (λ r. e ∷ r) (entries_again es)

list_again : (s : PoisonState) → Poison.state_of (list_of s) ≡ s
unfolding list_of
list_again s = λ i. record { entries = entries_again s.entries i; overflow = s.overflow; overflow_time = s.overflow_time }

-- a device that stands for a view
pub device_of : DeviceState → Device
device_of s =
    record {
      volatile = s.volatile;
      persistent = s.persistent;
      clock = s.clock;
      policy = s.policy;
      logs = map log_of s.logs;
      poison = list_of s.poison;
      media = s.media;
    }

-- its logs, its whole view
logs_again : (ss : List LogState) → Log.states_of (map log_of ss) ≡ ss
logs_again [] = refl
logs_again (s ∷ ss) = λ i. log_again s i ∷ logs_again ss i

pub device_again : (s : DeviceState) → state_of (device_of s) ≡ s
unfolding device_of
device_again s =
    λ i. record {
      volatile = s.volatile;
      persistent = s.persistent;
      clock = s.clock;
      policy = s.policy;
      logs = logs_again s.logs i;
      poison = list_again s.poison i;
      media = s.media;
    }

-- ---- valid views
abbrev pub ValidView : DeviceState → Type 0
ValidView s = Holding ValidState s

-- a valid device has a valid view, and a valid view a valid device
pub view_valid : (d : Device) → ValidDevice d → ValidView (state_of d)
view_valid d v =
    record {
      some_unit = v.some_unit;
      few_units = v.few_units;
      logs = λ k h. rw (get_or-map Log.state_of d.logs k Log.blank) (v.logs.each k h).state;
      entries = record { few = simp length-take (omega (arith, v.poison.few)); chain = v.poison.chain; typed = v.poison.typed };
    }

pub device_valid : (s : DeviceState) → ValidView s → ValidDevice (device_of s)
unfolding device_of log_of list_of
device_valid s v =
    record {
      some_unit = v.some_unit;
      few_units = v.few_units;
      logs = record { each = λ k h. rw (get_or-map log_of s.logs k Log.no_log) (record { count = (v.logs k h).room; state = rw log_again (v.logs k h) }) };
      poison = record { few = v.entries.few; chain = rw entries_again v.entries.chain; typed = rw entries_again v.entries.typed };
    }
