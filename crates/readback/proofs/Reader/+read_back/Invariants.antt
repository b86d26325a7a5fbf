-- `readback::Reader::read_back` calls itself with fewer jobs. Assumes nothing.
use Rattle.readback.proofs.Reader.+read_back.Given as goal

abbrev pub decreases-read_back : goal.decreases-read_back
decreases-read_back l = l.count
