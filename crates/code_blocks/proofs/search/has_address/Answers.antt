use Rattle.std.proofs.Common.{◌∙◌}
use Rattle.code_blocks.proofs.SearchLemmas.{search_tells}
use Rattle.code_blocks.proofs.search.has_address.Goals as goal

pub returns : goal.returns
returns c = c.is_ok.ensures.value ∙ search_tells _ _ _ c.requires c.binary_search.ensures.position
