-- The measure of the recursion: the number of lines, which falls at each call. Assumes nothing.
use Rattle.host.proofs.walk.+need.Given as goal

abbrev pub decreases-need : goal.decreases-need
decreases-need l = l.lines
