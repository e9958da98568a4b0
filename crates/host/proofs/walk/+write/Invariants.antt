-- The measure of the recursion: the number of lines, which falls at each call. Assumes nothing.
use Rattle.host.proofs.walk.+write.Given as goal

abbrev pub decreases-write : goal.decreases-write
decreases-write l = l.lines
