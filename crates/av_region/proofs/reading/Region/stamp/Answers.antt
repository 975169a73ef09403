use Rattle.av_region.proofs.reading.Region.stamp.Goals as goal

pub returns : goal.returns
returns c = c.header_number.ensures
