-- Identify (document 01, "Logs and identity"). Assumes nothing.
use Rattle.std.specs.Prelude.{ℕ, ◌+◌, List, [], ◌∷◌, ◌++◌}
use Rattle.labels.specs.Labels.{label_size}
use Rattle.wire.specs.Wire.{le}
use Rattle.settings.specs.Reply.{Reply, replied}

-- "BWFW VERSION 0" and two zeros
unfoldable pub version : List ℕ
version = 66 ∷ 87 ∷ 70 ∷ 87 ∷ 32 ∷ 86 ∷ 69 ∷ 82 ∷ 83 ∷ 73 ∷ 79 ∷ 78 ∷ 32 ∷ 48 ∷ 0 ∷ 0 ∷ []

-- "alignment 8 zero; log sizes 2 each for logs 0 to 3 (8); label size 4 ..; 256 in 3 bytes; 0 in 2; two zero bytes; log 4 size 2 (8)"; "Identify's label size becomes 4,096" (document 02,
-- W-206)
unfoldable pub limits : List ℕ
limits = le 8 0 ++ le 2 8 ++ le 2 8 ++ le 2 8 ++ le 2 8 ++ le 4 label_size ++ le 3 256 ++ le 2 0 ++ le 2 0 ++ le 2 8

-- 4000h, 69 bytes: the version; total, volatile, persistent units 8 each; the limits
unfoldable pub identify : ℕ → ℕ → Reply
identify volatile persistent = replied (version ++ le 8 (volatile + persistent) ++ le 8 volatile ++ le 8 persistent ++ limits)
