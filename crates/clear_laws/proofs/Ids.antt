-- Ids of a function's instructions are below the next.
use Rattle.std.proofs.Common.{◌≡◌, ◌<◌, ◌≤◌, ℕ, Bool, true, false, cond, List, [], ◌∷◌, refl, sym, ap, subst, arith, eqb, eq-eqb}
use Rattle.std.specs.Prelude.{nat_lt, if◌then◌else◌}
use Rattle.std.proofs.lemmas.Bool.{ltb-true}
use Rattle.std.proofs.lemmas.List.Sums.{sum_by-cons}
use Rattle.meaning.specs.Live.{Among as Member}
use Rattle.mir_func.specs.declared.func.Instr.{Instr}
use Rattle.mir_func.specs.declared.func.Block.{Block}
use Rattle.mir_func.specs.Value.{Function, IsFunction, id_count, id_total}
use Rattle.instr_effects.proofs.Members.{member-elim, member-none}

weight : ℕ → Instr → ℕ
weight x i = cond (eqb i.id x) 1 0

total : ℕ → Block → ℕ
total x b = id_count x b.instrs

count-one : (is : List Instr) (i : Instr) → Member i is → 1 ≤ id_count i.id is
unfolding weight
count-one [] i m = absurd (member-none i m)
count-one (c ∷ is) i m =
    member-elim i c is
    (λ e. let one : weight i.id c ≡ 1 = ap (λ b. cond b 1 0) (eq-eqb c.id i.id (ap (λ (x : Instr). x.id) (sym e))) in omega (arith, one, sum_by-cons (weight i.id) c is))
    (λ k. omega (arith, count-one is i k, sum_by-cons (weight i.id) c is)) m

count-within : (x : ℕ) (bs : List Block) (b : Block) → Member b bs → id_count x b.instrs ≤ id_total x bs
unfolding total
count-within x [] b m = absurd (member-none b m)
count-within x (c ∷ bs) b m =
    member-elim b c bs
    (λ e. subst (λ (d : Block). id_count x d.instrs ≤ id_total x (c ∷ bs)) (sym e) (omega (arith, sum_by-cons (total x) c bs)))
    (λ k. omega (arith, count-within x bs b k, sum_by-cons (total x) c bs)) m

pub id-below : (f : Function) → IsFunction f.blocks f.next_id → (b : Block) → Member b f.blocks → (i : Instr) → Member i b.instrs → i.id < f.next_id
id-below f whole b mb i mi = go (nat_lt i.id f.next_id) refl (whole.once i.id)
  where
    go : (c : Bool) → nat_lt i.id f.next_id ≡ c → id_total i.id f.blocks ≤ (if c then 1 else 0) → i.id < f.next_id
    go true e h = ltb-true i.id f.next_id e
    go false e h = absurd (omega (arith, h, count-one b.instrs i mi, count-within i.id f.blocks b mb))
