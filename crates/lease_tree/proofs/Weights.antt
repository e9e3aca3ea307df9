-- What the balance of a tree says of its depth.
use Rattle.std.proofs.Common.{ℕ, zero, suc, ◌≡◌, ◌+◌, ◌*◌, ◌^◌, ◌<◌, ◌≤◌, ◌∷◌, ◌++◌, length, length-append, arith}
use Rattle.lease_tree.specs.declared.node.Tree.{Tree, Leaf, Fork'}
use Rattle.lease_tree.specs.Trees.{leases_of, IsEven, IsBalanced, depth}

abbrev weight : Tree → ℕ
weight tree = length (leases_of tree) + 1

-- each side has at most three quarters of the weight
one_down : (n : ℕ) (tree : Tree) → IsBalanced tree → ((side : Tree) → IsBalanced side → 4 * weight side ≤ 3 * weight tree → depth side ≤ n) → depth tree ≤ n + 1
one_down n Leaf h below = omega arith
one_down n (Fork' p lease size left right) h below =
    let even : IsEven (length (leases_of left)) (length (leases_of right)) = h.0 in
    let all : length (leases_of left ++ lease ∷ leases_of right) ≡ length (leases_of left) + suc (length (leases_of right)) = length-append (leases_of left) (lease ∷ leases_of right) in
    let on_left = below left h.1 (omega (arith, all, even.left_light)) in
    let on_right = below right h.2 (omega (arith, all, even.right_light)) in
    omega (arith, on_left, on_right)

pub shallow : (tree : Tree) (bits : ℕ) → IsBalanced tree → length (leases_of tree) < 2 ^ bits → depth tree ≤ 3 * bits
shallow Leaf zero h few = omega arith
shallow (Fork' p lease size left right) zero h few =
    let all : length (leases_of left ++ lease ∷ leases_of right) ≡ length (leases_of left) + suc (length (leases_of right)) = length-append (leases_of left) (lease ∷ leases_of right) in
    absurd (omega (arith, all, few))
shallow tree (suc bits) h few =
    let three = one_down (3 * bits + 1 + 1) tree h (λ a ha wa.
    one_down (3 * bits + 1) a ha (λ b hb wb.
    one_down (3 * bits) b hb (λ c hc wc.
    shallow c bits hc (omega (arith, few, wa, wb, wc))))) in
    omega (arith, three)
