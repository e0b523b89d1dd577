use Rattle.reader.proofs.Reader.out_of_range.Goals as goal

pub returns-in-Sizes : goal.returns-in-Sizes
returns-in-Sizes c = simp c.in-Sizes.is c.sizes_out.ensures

pub returns-in-Row : goal.returns-in-Row
returns-in-Row c = simp c.in-Row.is c.row_out.ensures

pub returns-in-DontCare : goal.returns-in-DontCare
returns-in-DontCare c = simp c.in-DontCare.is c.beyond.ensures

pub returns-in-Gate : goal.returns-in-Gate
returns-in-Gate c = simp c.in-Gate.is

pub returns-in-Limit : goal.returns-in-Limit
returns-in-Limit c = simp c.in-Limit.is c.limit_out.ensures
