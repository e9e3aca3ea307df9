use Rattle.std.specs.Prelude.{◌≡◌, ℕ, ◌<◌, List, length, get_or, Some}
use Rattle.rv_memory.specs.Paged.{no_page}
use Rattle.rv_memory.specs.PageIndex.{entry}
use Rattle.rv_memory.specs.declared.index.PageIndex.{PageIndex}
use Rattle.rv_memory.specs.declared.page.Page.{Page}
use Rattle.rv_memory.specs.declared.recent.Recent.{Recent}

-- Each page is found by its number. What is found for another number, as after a change that was taken back, does no
-- harm: whoever looks up compares the number that the page has.
pub record IsIndexed (index : PageIndex) (pages : List Page) : Type 0 where
  pub listed : (k : ℕ) → k < length pages → entry index (get_or pages k no_page).number ≡ Some k

-- what stands for a recent page where there is none
abbrev pub no_recent : Recent
no_recent = record { number = 0; place = 0 }

-- the page that was used of late stands at its place
abbrev pub IsPlaced : Recent → List Page → Type 0
IsPlaced r pages = (r.place < length pages) × ((get_or pages r.place no_page).number ≡ r.number)

pub record AreRecent (recent : List Recent) (pages : List Page) : Type 0 where
  pub placed : (k : ℕ) → k < length recent → IsPlaced (get_or recent k no_recent) pages
