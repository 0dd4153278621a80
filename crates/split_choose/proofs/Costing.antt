-- What a choice of nodes costs is what its cut of the net costs, and the base.
use Rattle.std.proofs.Common.{◌≡◌, ◌∙◌, ℕ, ◌+◌, List, [], ◌∷◌, ◌++◌, Bool, true, false, cond, arith, refl, ap, Option, Some, None}
use Rattle.std.specs.Prelude.{not}
use Rattle.std.proofs.lemmas.List.Sums.{sum_by-cons}
use Rattle.cut_place.specs.declared.net.Arc.{Arc}
use Rattle.cut_place.specs.Flows.{capacity_where, capacity_leaving, IsCut}
use Rattle.split_choose.specs.declared.nets.BlockNodes.{BlockNodes}
use Rattle.split_choose.specs.Nets.{arc_to, arcs_between, row_arcs, arcs_of, row_base, base_of, inside_uses}
use Rattle.split_choose.specs.Placings.{copy_cost, out_cost, row_cost, choice_cost}

where-append : (p : Arc → Bool) (xs ys : List Arc) → capacity_where p (xs ++ ys) ≡ capacity_where p xs + capacity_where p ys
where-append p [] ys = omega arith
where-append p (x ∷ xs) ys = let ih = where-append p xs ys in omega (arith, ih)

pub leaving-append : (c : ℕ → Bool) (xs ys : List Arc) → capacity_leaving c (xs ++ ys) ≡ capacity_leaving c xs + capacity_leaving c ys
leaving-append c xs ys = where-append (λ a. cond (c a.from) (not (c a.to)) false) xs ys

between : (b i : Bool) (most : ℕ) → cond (cond b (not i) false) most 0 + (cond (cond i (not b) false) most 0 + 0) ≡ cond b (cond i 0 most) (cond i most 0)
between true true most = refl
between true false most = omega arith
between false true most = omega arith
between false false most = refl

copies : (c : ℕ → Bool) (border : Option ℕ) (inside most : ℕ) → capacity_leaving c (arcs_between border inside most) ≡ copy_cost c border inside most
copies c None inside most = refl
copies c (Some b) inside most = between (c b) (c inside) most

to-node : (b : Bool) (most : ℕ) → cond (not b) most 0 + 0 ≡ cond b 0 most
to-node true most = refl
to-node false most = omega arith

outs : (c : ℕ → Bool) (node : Option ℕ) (most : ℕ) → c 0 ≡ true → capacity_leaving c (arc_to 0 node most) ≡ out_cost c node most
outs c None most h = refl
outs c (Some n) most h = ap (λ b. cond (cond b (not (c n)) false) most 0 + 0) h ∙ to-node (c n) most

zero-more : (n : ℕ) → 0 + n ≡ n
zero-more n = omega arith

leaving-two : (c : ℕ → Bool) (xs ys : List Arc) (m n : ℕ) → capacity_leaving c xs ≡ m → capacity_leaving c ys ≡ n → capacity_leaving c (xs ++ ys) ≡ m + n
leaving-two c xs ys m n a b = leaving-append c xs ys ∙ (ap (λ k. k + capacity_leaving c ys) a ∙ ap (λ k. m + k) b)

inner : (c : ℕ → Bool) (entry exit : Option ℕ) (n most own last : ℕ) → c 0 ≡ true
    → capacity_leaving c (arcs_between entry n most ++ arcs_between exit n most ++ arc_to 0 (Some n) own ++ arc_to 0 exit last)
    ≡ copy_cost c entry n most + copy_cost c exit n most + out_cost c (Some n) own + out_cost c exit last
inner c entry exit n most own last h =
    leaving-two c (arcs_between entry n most ++ arcs_between exit n most ++ arc_to 0 (Some n) own) (arc_to 0 exit last) _ _
    (leaving-two c (arcs_between entry n most ++ arcs_between exit n most) (arc_to 0 (Some n) own) _ _
    (leaving-two c (arcs_between entry n most) (arcs_between exit n most) _ _ (copies c entry n most) (copies c exit n most)) (outs c (Some n) own h)) (outs c exit last h)

row : (c : ℕ → Bool) (r : BlockNodes) → c 0 ≡ true → row_base r + capacity_leaving c (row_arcs r) ≡ row_cost c r
row c r h = go r.inside refl
  where
    go : (inside : Option ℕ) → r.inside ≡ inside → row_base r + capacity_leaving c (row_arcs r) ≡ row_cost c r
    go None e = rw e (let z : r.uses + 0 ≡ r.uses = omega arith in z)
    go (Some n) e = rw e (zero-more _ ∙ inner c r.entry r.exit n r.frequency (inside_uses r) r.end_uses h)

-- Each choice of nodes that is a cut costs what the arcs that leave it carry, and the base.
pub cost-is : (c : ℕ → Bool) (rows : List BlockNodes) → IsCut c → base_of rows + capacity_leaving c (arcs_of rows) ≡ choice_cost c rows
cost-is c [] cut = refl
cost-is c (r ∷ rows) cut =
    let here = row c r cut.0 in
    let rest = cost-is c rows cut in
    let a = sum_by-cons row_base r rows in
    let b = leaving-append c (row_arcs r) (arcs_of rows) in
    let d = sum_by-cons (row_cost c) r rows in
    omega (arith, here, rest, a, b, d)
