use Rattle.std.specs.Prelude.{ℕ, ◌/◌, ◌%◌, Bool, ◌&&◌, nat_eq, nat_lt, if◌then◌else◌, Option, Some, None, [], length, get_or}
use Rattle.rv_memory.specs.declared.index.PageIndex.{PageIndex}
use Rattle.rv_memory.specs.declared.index.Leaf.{Leaf}

-- what stands for a leaf where there is none
abbrev pub no_leaf : Leaf
no_leaf = record { region = 0; slots = [] }

-- where the leaf of a region stands, if it has one
abbrev pub top : PageIndex → ℕ → ℕ
top index r = get_or index.tops.items r 0

-- a region has a leaf where the leaf that stands there is its own
abbrev pub has_leaf : PageIndex → ℕ → Bool
has_leaf index r =
    nat_lt (top index r) (length index.leaves.items)
    && nat_eq (get_or index.leaves.items (top index r) no_leaf).region r

-- what the index has for a page
abbrev pub entry : PageIndex → ℕ → Option ℕ
entry index p =
    if has_leaf index (p / 1024)
    then Some (get_or (get_or index.leaves.items (top index (p / 1024)) no_leaf).slots (p % 1024) 0) else None
