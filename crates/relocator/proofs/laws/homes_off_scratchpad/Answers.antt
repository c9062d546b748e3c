use Rattle.relocator.proofs.ObjectLemmas.{home_off_scratchpad}
use Rattle.relocator.proofs.laws.homes_off_scratchpad.Goals as goal

pub returns : goal.returns
returns c = λ v g board laid o i j inside within same. home_off_scratchpad v board g o i j laid.layout laid.graph.objects inside within same
