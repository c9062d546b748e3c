use Rattle.placement_programme.specs.Views.{plain_choice}
use Rattle.relinking.proofs.making.relink_programme.Goals as goal

pub find_choice-requires : goal.find_choice-requires
find_choice-requires g c = let (file, is) = c.requires.analysis in is.lawful.least_nodes

pub realise-requires-clause-choice : goal.realise-requires-clause-choice
realise-requires-clause-choice g c = c.requires.choices (plain_choice c.in_ok-solution.solution.found.choice) c.in_ok-solution.ensures.feasible

pub returns-clause-made : goal.returns-clause-made
returns-clause-made g c = λ file is.
    record {
      chosen = c.requires.choices (plain_choice c.in_ok-solution.solution.found.choice) c.in_ok-solution.ensures.feasible;
      result = record {
        found = c.in_ok-solution.ensures;
        realises = c.in_ok-result.ensures.realises file is;
        keeps = c.in_ok-result.ensures.keeps file is;
      };
      stands = c.in_ok-result.ensures.stands;
    }
