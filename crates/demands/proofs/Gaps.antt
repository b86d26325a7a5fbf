-- The gaps are listed, cited. Assumes nothing.
use Rattle.day.proofs.GapRuns.{gaps_listed, listed_unique}
use Rattle.demands.specs.Gaps.{GapsListed}

pub gaps_are_listed : GapsListed
gaps_are_listed =
    record {
      listed = gaps_listed;
      only = λ full slots gs listed. listed_unique full slots listed (gaps_listed full slots);
    }
