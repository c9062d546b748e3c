use Rattle.placement_candidates.proofs.WholeLemmas.{overlay_adds_up}
use Rattle.placement_candidates.proofs.overlay_laws.overlay_adds_up.Goals as goal

pub returns : goal.returns
returns c view board g code t q ms names given apart =
    overlay_adds_up c.one_instruction.ensures view board g code t q ms names given apart
