use Rattle.contest_page.specs.Page.{page_text}
use Rattle.contest_page.proofs.page.write_page.Goals as goal

pub returns : goal.returns
unfolding page_text
returns c = rw c.entries.ensures at c.page_with.ensures
