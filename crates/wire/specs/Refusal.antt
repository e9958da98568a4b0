-- The paper's number of each refusal (document 01, "Return numbers"), and what a result stands for: 0000h where a call does not refuse. Assumes nothing.
use Rattle.std.specs.Prelude.{ℕ, Result, Ok, Err}
use Rattle.wire.specs.Returns.{success, invalid_input, unsupported, busy, media_disabled, invalid_handle, invalid_address, inject_limit, unsupported_mailbox, invalid_length, invalid_log, small_buffer}
use Rattle.wire.specs.declared.refusal.Refusal.{Refusal}
use Rattle.wire.specs.declared.refusal.Refusal.TheVariants.{InvalidInput, Unsupported, Busy, MediaDisabled, InvalidHandle, InvalidAddress, InjectLimit, UnsupportedMailbox, InvalidLength, InvalidLog, SmallBuffer}
use Rattle.wire.specs.declared.done.Done.{Done}

abbrev pub refusal_number : Refusal → ℕ
refusal_number InvalidInput = invalid_input
refusal_number Unsupported = unsupported
refusal_number Busy = busy
refusal_number MediaDisabled = media_disabled
refusal_number InvalidHandle = invalid_handle
refusal_number InvalidAddress = invalid_address
refusal_number InjectLimit = inject_limit
refusal_number UnsupportedMailbox = unsupported_mailbox
refusal_number InvalidLength = invalid_length
refusal_number InvalidLog = invalid_log
refusal_number SmallBuffer = small_buffer

-- the return number of a result
abbrev pub code_of : {A : Type 0} → Result A Refusal → ℕ
code_of (Ok x) = success
code_of (Err r) = refusal_number r

-- the return number and the bytes written, of a call that writes to a lent room and answers how many bytes it wrote
abbrev pub done_of : Result ℕ Refusal → Done
done_of (Ok n) = record { code = success; length = n }
done_of (Err r) = record { code = refusal_number r; length = 0 }
