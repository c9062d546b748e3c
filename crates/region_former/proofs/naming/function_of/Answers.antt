use Rattle.region_former.proofs.naming.function_of.Goals as goal

pub function_of-requires : goal.function_of-requires
function_of-requires c = rw c.deref.ensures.value c.requires.disjoint

pub returns : goal.returns
returns c = rw c.deref.ensures.value at c.function_of.ensures
