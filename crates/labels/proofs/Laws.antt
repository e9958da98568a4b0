-- The laws of the label area, each with its sentence in words; their statements and proofs are in other files, and are passed on from here. This is the one file of proofs/ that a
-- crate above may cite (`tests/layers`): these laws, the definitions of specs/ and the functions' contracts are the layer's stated behaviour. Assumes nothing.

-- After a Set LSA that is accepted, a Get LSA of the same range that is answered Success gives the data back, and a Get of a range with no byte in common gives what it gave before; the
-- area keeps its length.
pub use Rattle.labels.proofs.Ranges.{read_back, apart_kept, set_length}
-- A Get LSA of at most as many bytes as a reply has, which ends in the area, gives the bytes of its range, and every other is 0002h; so one that is answered Success gives those bytes, and one that is
-- refused gives none.
pub use Rattle.labels.proofs.Ranges.{get_inside, get_outside, get_accepted, get_refused}
-- A Set LSA that is accepted ends in the area, and its reserved bytes are zero, each; one that ends past it, or with a reserved byte not zero, is 0002h; every other is accepted.
pub use Rattle.labels.proofs.Cases.{set_accepted}
pub use Rattle.labels.proofs.Ranges.{reserved_accepted, reserved_refused, past_refused, inside_accepted}
