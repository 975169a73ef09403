use Rattle.av_exchange.proofs.names.is_region_name.Goals as goal

pub returns-in-Some-clause-is : goal.returns-in-Some-clause-is
returns-in-Some-clause-is c = λ is. record { region = c.in-Some.region; fits = c.fits_region.ensures; named = rw c.in-Some.is at c.in_ok-region.ensures.named }
