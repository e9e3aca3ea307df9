-- What each change of the leases keeps: each is one of the hosts', and none of them holds more than 64.
use Rattle.std.proofs.Common.{ℕ, zero, suc, ◌≡◌, ◌≤◌, ◌<◌, ◌+◌, ◌*◌, List, [], ◌∷◌, ◌++◌, Bool, true, false, not, cond, refl, sym, ap, ◌∙◌, subst, arith, length, map, filter, eqb}
use Rattle.std.proofs.lemmas.List.{length_push}
use Rattle.std.proofs.lemmas.List.Elements.{All-head, All-push, All-filter, All-map, All-weaker, filter_passes}
use Rattle.std.proofs.lemmas.Bool.Decides.{nat_tests}
use Rattle.farm_model.specs.declared.records.Lease.{Lease}
use Rattle.farm_model.specs.Leases.{holds, held_count, without_host, renew_if}
use Rattle.lease_book.proofs.Counts.{one_if, count_cons, count_push, count_parts, length_kept}
use Rattle.judging_core.specs.Holding.{IsOfHosts, IsHeldWell}

-- one host more
pub more_hosts : (hosts : ℕ) (xs : List Lease) → IsHeldWell hosts xs → IsHeldWell (hosts + 1) xs
more_hosts hosts xs h = record {
  hosts_known = λ k d lt. let a = h.hosts_known k d lt in (a.0, omega arith);
  few_each = h.few_each;
}

-- some of the leases
pub some_held : (hosts : ℕ) (p : Lease → Bool) (xs : List Lease) → IsHeldWell hosts xs → IsHeldWell hosts (filter p xs)
some_held hosts p xs h = record {
  hosts_known = All-filter p (IsOfHosts hosts) xs h.hosts_known;
  few_each = λ host. omega (arith, count_parts p (holds host) xs, h.few_each host);
}

-- one lease more, whose host holds fewer than 64 of the others
pub one_held : (hosts : ℕ) (xs : List Lease) (lease : Lease) → IsHeldWell hosts xs → IsOfHosts hosts lease → held_count xs lease.host < 64 → IsHeldWell hosts (xs ++ lease ∷ [])
one_held hosts xs lease h known few = record {
  hosts_known = All-push (IsOfHosts hosts) xs lease h.hosts_known known;
  few_each = λ host.
      let e = count_push (holds host) xs lease in
      let fits : (t : Bool) → eqb lease.host host ≡ t → held_count xs host + one_if t ≤ 64
      = λ t. elim t as (λ t. eqb lease.host host ≡ t → held_count xs host + one_if t ≤ 64) [
        | true ↦ λ s. let same : lease.host ≡ host = grind (arith, nat_tests) in let few_here : held_count xs host < 64 = subst (λ n. held_count xs n < 64) same few in omega arith
        | false ↦ λ s. omega (arith, h.few_each host)
      ] in
      omega (arith, e, fits (eqb lease.host host) refl);
}

counted_renewed : (p : Lease → Bool) (until host : ℕ) (xs : List Lease) → held_count (map (renew_if p until) xs) host ≡ held_count xs host
counted_renewed p until host [] = refl
counted_renewed p until host (x ∷ xs) =
    let same : (renew_if p until x).host ≡ x.host = elim (p x) as (λ b. (cond b (record x { until = until }) x).host ≡ x.host) [ true ↦ refl | false ↦ refl ] in
    count_cons (holds host) (renew_if p until x) (map (renew_if p until) xs) ∙ ap (λ h. one_if (eqb h host) + held_count (map (renew_if p until) xs) host) same
    ∙ ap (λ n. one_if (holds host x) + n) (counted_renewed p until host xs) ∙ sym (count_cons (holds host) x xs)

-- some of the leases end later
pub renewed_held : (hosts : ℕ) (xs : List Lease) (p : Lease → Bool) (until : ℕ) → IsHeldWell hosts xs → IsHeldWell hosts (map (renew_if p until) xs)
renewed_held hosts xs p until h = record {
  hosts_known = All-map (IsOfHosts hosts) (renew_if p until) xs (All-weaker (IsOfHosts hosts) (λ x. IsOfHosts hosts (renew_if p until x)) known xs h.hosts_known);
  few_each = λ host. rw (counted_renewed p until host xs) (h.few_each host);
} where
  known : (x : Lease) → IsOfHosts hosts x → IsOfHosts hosts (renew_if p until x)
  known x k = elim (p x) as (λ b. IsOfHosts hosts (cond b (record x { until = until }) x)) [ true ↦ k | false ↦ k ]

-- the leases of the hosts but the last
prefix_held : (hosts : ℕ) (xs : List Lease) → IsHeldWell (suc hosts) xs → IsHeldWell hosts (without_host xs (suc hosts))
prefix_held hosts xs h =
    let left = some_held (suc hosts) (λ x. not (holds (suc hosts) x)) xs h in
    let passes = filter_passes (λ (x : Lease). not (holds (suc hosts) x)) xs in
    record {
      hosts_known = λ k d lt.
          let a = left.hosts_known k d lt in
          let b = passes k d lt in
          (a.0, grind (arith, nat_tests));
      few_each = left.few_each;
    }

-- there are at most 64 leases for each host
pub few_in_all : (hosts : ℕ) (xs : List Lease) → IsHeldWell hosts xs → length xs ≤ 64 * hosts
few_in_all zero [] h = omega arith
few_in_all zero (x ∷ xs) h = let a = All-head (IsOfHosts zero) x xs h.hosts_known in absurd (omega arith)
few_in_all (suc hosts) xs h =
    omega (arith, few_in_all hosts (without_host xs (suc hosts)) (prefix_held hosts xs h), length_kept (holds (suc hosts)) xs, h.few_each (suc hosts))

-- and fewer, where a host holds fewer
pub fewer_in_all : (hosts : ℕ) (xs : List Lease) (lease : Lease) → IsHeldWell hosts xs → IsOfHosts hosts lease → held_count xs lease.host < 64 → length xs < 64 * hosts
fewer_in_all hosts xs lease h known few =
    omega (arith, few_in_all hosts (xs ++ lease ∷ []) (one_held hosts xs lease h known few), length_push xs lease)
