use Rattle.branch_bound.proofs.side_searching.visit.Goals as goal

pub returns-clause-asks : goal.returns-clause-asks
returns-clause-asks g c =
    record {
      answer = c.in_ok-found.found;
      answered = c.in_ok-found.ensures;
      grows = c.try_candidate.ensures.grows;
      takes = c.try_candidate.ensures.takes;
      visited = c.fathom_or_branch-visit.ensures.visited;
      leads = c.fathom_or_branch-visit.ensures.leads;
    }
