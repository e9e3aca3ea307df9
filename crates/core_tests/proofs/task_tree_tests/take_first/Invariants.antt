use Rattle.core_tests.proofs.task_tree_tests.take_first.Given as goal

abbrev pub ghosts-take_first_with : goal.ghosts-take_first_with
ghosts-take_first_with a = record { name = a.blank.name; parts = a.blank.parts }
