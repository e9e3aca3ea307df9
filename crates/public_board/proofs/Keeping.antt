-- Each step keeps the versions.
use Rattle.std.proofs.Common.{◌≡◌, ◌≢◌, ℕ, zero, suc, ◌+◌, ◌≤◌, Bool, true, false, List, [], ◌∷◌, ◌++◌, length, set, nat_lt, refl, ap, sym, subst, ⊎_elim, arith, length-append, le_trans}
use Rattle.std.specs.Prelude.{if◌then◌else◌}
use mathlib.Core.Option.{some}
use mathlib.Core.List.{IsPrefix}
use lib.ListN.{get_elem?}
use Rattle.crossbeam_utils.specs.Register.{Admits, TurnsAt, Forks, Merges}
use Rattle.atomic_table.proofs.Lists.{at_set, at_snoc}
use Rattle.public_board.specs.declared.rows.Rows.{Rows}
use Rattle.public_board.specs.declared.rule.View.{View}
use Rattle.public_board.specs.Versions.{last_of, newcomer, informed, Fits, Keeps, Sees, Publishes}
use Rattle.public_board.proofs.Prefixes.{prefix_self, prefix_more, prefix_whole}

module _ {R : Type 0} where
  pub last_snoc : (log : List (List R)) (x : List R) → last_of (log ++ x ∷ []) ≡ x
  last_snoc [] x = refl
  last_snoc (y ∷ []) x = refl
  last_snoc (y ∷ z ∷ log) x = last_snoc (z ∷ log) x

  fits_set : (log : List (List R)) (views : List (View R)) (seat : ℕ) (w : View R) → Fits log w → ((j : ℕ) (u : View R) → get_elem? views j ≡ some u → Fits log u)
      → (j : ℕ) (u : View R) → get_elem? (set views seat w) j ≡ some u → Fits log u
  fits_set log views seat w mine others j u e =
      ⊎_elim (λ (t : (j ≡ seat) × (w ≡ u)). subst (λ (z : View R). Fits log z) t.1 mine)
      (λ (t : (j ≢ seat) × (get_elem? views j ≡ some u)). others j u t.1)
      (at_set views seat j w u e)

  fits_snoc : (log : List (List R)) (views : List (View R)) (w : View R) → Fits log w → ((j : ℕ) (u : View R) → get_elem? views j ≡ some u → Fits log u)
      → (j : ℕ) (u : View R) → get_elem? (views ++ w ∷ []) j ≡ some u → Fits log u
  fits_snoc log views w mine others j u e =
      ⊎_elim (others j u) (λ (t : w ≡ u). subst (λ (z : View R). Fits log z) t mine) (at_snoc views w u j e)

  newcomer_fits : (log : List (List R)) → Fits log newcomer
  newcomer_fits log = record { seen = (log, refl); told = (log, refl); least = omega arith }

  module _ (allows : List (List R) → Type 0) where
    pub admits : Admits (Keeps allows) newcomer
    admits x views h = record {
      versions = h.versions;
      allowed = h.allowed;
      count = h.count;
      last = h.last;
      fit = fits_snoc h.versions views newcomer (newcomer_fits h.versions) h.fit;
    }

    pub reads : (seat : ℕ) (v : View R) (x : Rows R) → TurnsAt (Keeps allows) seat v x x (Sees allows)
    reads seat v x views h at =
        let w : View R = record { seen = h.versions; told = v.told; least = v.least } in
        let f = h.fit seat v at in
        let mine : Fits h.versions w = record { seen = prefix_self h.versions; told = f.told; least = f.least } in (
          w,
          record {
            versions = h.versions;
            allowed = h.allowed;
            count = h.count;
            last = h.last;
            fit = fits_set h.versions views seat w mine h.fit;
          },
          record {
            seen = f.seen;
            told = f.told;
            allowed = h.allowed;
            count = h.count;
            last = h.last;
            least = subst (λ (z : List R). v.least ≤ length z) h.last f.least;
            kept_told = refl;
            kept_least = refl;
          },
        )

    pub publishes : (seat : ℕ) (v : View R) (x y : Rows R) → length v.seen ≡ x.count → y.count ≡ x.count + 1
        → length x.rows.items ≤ length y.rows.items → allows (v.seen ++ y.rows.items ∷ []) → TurnsAt (Keeps allows) seat v x y Publishes
    publishes seat v x y ready more long allowed views h at =
        let log = h.versions in
        let f = h.fit seat v at in
        let len = h.count in
        let same : v.seen ≡ log = prefix_whole v.seen log f.seen (omega arith) in
        let rows = y.rows.items in
        let log' : List (List R) = log ++ rows ∷ [] in
        let w : View R = record { seen = v.seen ++ rows ∷ []; told = v.told; least = length rows } in
        let now : w.seen ≡ log' = ap (λ (z : List (List R)). z ++ rows ∷ []) same in
        let len' = length-append log (rows ∷ []) in
        let len'' = length-append v.seen (rows ∷ []) in
        let last' : last_of log' ≡ rows = last_snoc log rows in
        let longer : (n : ℕ) → n ≤ length (last_of log) → n ≤ length (last_of log') =
        λ n le. subst (λ (z : List R). n ≤ length z) (sym last') (le_trans (subst (λ (z : List R). n ≤ length z) h.last le) long) in
        let mine : Fits log' w = record {
          seen = subst (λ (z : List (List R)). IsPrefix z log') (sym now) (prefix_self log');
          told = prefix_more v.told log rows f.told;
          least = subst (λ (z : List R). length rows ≤ length z) (sym last') (omega arith);
        } in
        let others : (j : ℕ) (u : View R) → get_elem? views j ≡ some u → Fits log' u =
        λ j u e. let g = h.fit j u e in record {
          seen = prefix_more u.seen log rows g.seen;
          told = prefix_more u.told log rows g.told;
          least = longer u.least g.least;
        } in (
          w,
          record {
            versions = log';
            allowed = subst allows now allowed;
            count = omega arith;
            last = last';
            fit = fits_set log' views seat w mine others;
          },
          record { seen = refl; told = refl; least = refl; count = omega arith },
        )

    pub forks : (seat : ℕ) (v : View R) → Forks (Keeps allows) seat v v v
    forks seat v x views h at =
        let f = h.fit seat v at in record {
          versions = h.versions;
          allowed = h.allowed;
          count = h.count;
          last = h.last;
          fit = fits_snoc h.versions (set views seat v) v f (fits_set h.versions views seat v f h.fit);
        }

    either_fits : (log xs ys : List (List R)) (b : Bool) → IsPrefix xs log → IsPrefix ys log → IsPrefix (if b then ys else xs) log
    either_fits log xs ys true p q = q
    either_fits log xs ys false p q = p

    pub merges : (seat : ℕ) (v : View R) (other : ℕ) (w : View R) → Merges (Keeps allows) seat v other w (informed v w) newcomer
    merges seat v other w x views h at apart there =
        let log = h.versions in
        let f = h.fit seat v at in
        let g : Fits log w =
        ⊎_elim (λ (t : (other ≡ seat) × (informed v w ≡ w)). absurd (apart t.0))
        (λ (t : (other ≢ seat) × (get_elem? views other ≡ some w)). h.fit other w t.1)
        (at_set views seat other (informed v w) w there) in
        let fl = f.least in
        let gl = g.least in
        let mine : Fits log (informed v w) = record {
          seen = f.seen;
          told = either_fits log v.told w.seen (nat_lt (length v.told) (length w.seen)) f.told g.seen;
          least = omega arith;
        } in record {
          versions = log;
          allowed = h.allowed;
          count = h.count;
          last = h.last;
          fit = fits_set log (set views seat (informed v w)) other newcomer (newcomer_fits log)
              (fits_set log views seat (informed v w) mine h.fit);
        }

    pub opens : (x : Rows R) → allows [] → x.count ≡ 0 → x.rows.items ≡ [] → Keeps allows x (newcomer ∷ [])
    opens x allowed none empty = record {
      versions = [];
      allowed = allowed;
      count = sym none;
      last = sym empty;
      fit = fits_snoc [] [] newcomer (newcomer_fits []) (λ j u e. absurd (nothing j u e));
    }
      where
        nothing : (j : ℕ) (u : View R) → get_elem? [] j ≡ some u → ⊥
        nothing zero u e = cc e
        nothing (suc j) u e = cc e
