use Rattle.lazy_stop.proofs.Listing.{listed, fills_listed}
use Rattle.lazy_stop.proofs.laws.completions_are_all.Goals as goal

pub returns : goal.returns
returns c = λ rule row kinds. (fills_listed rule row kinds, listed rule row kinds)
