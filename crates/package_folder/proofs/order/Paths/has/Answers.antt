use Rattle.package_folder.proofs.order.Paths.has.Goals as goal

pub returns : goal.returns
returns c = rw (← c.self.view_is) (rw c.deref.ensures.value at c.has_text.ensures)
