-- `protocol::calls::media` meets its contract: the fields read are those of the record's bytes. Assumes nothing.
use mathlib.Core.Path.{refl}
use Rattle.protocol.proofs.CallLaws.{media_as}
use Rattle.protocol.proofs.calls.media.Goals as goal

pub returns : goal.returns
returns c =
    media_as c.args.bytes.now _ _ _ _ c.media_report.ensures c.get-time.ensures.value
    c.get-address.ensures.value c.get-count.ensures.value refl
