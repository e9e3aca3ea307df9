use Rattle.farm_core.proofs.contest.ContestState.fetch.Given as goal

abbrev pub ghosts-fetch_by : goal.ghosts-fetch_by
ghosts-fetch_by a = record { name = a.blank.name; parts = a.blank.parts }
