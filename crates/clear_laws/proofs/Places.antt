-- Where an instruction of a function stands, by its id.
use Rattle.std.proofs.Common.{◌≡◌, ◌⊎◌, inl, inr, ℕ, suc, Bool, true, false, cond, not, List, [], ◌∷◌, ◌++◌, ◌+◌, length, map, refl, ap, ◌∙◌, arith, eqb-true}
use Rattle.std.specs.Prelude.{nat_eq, nat_lt}
use Rattle.std.proofs.lemmas.Bool.Decides.{nat_tests}
use Rattle.target_base.specs.declared.types.Target.{Target}
use Rattle.meaning.specs.Code.{Code}
use Rattle.mir_func.specs.declared.func.Instr.{Instr}
use Rattle.mir_func.specs.declared.func.Block.{Block}
use Rattle.mir_func.specs.Value.{Function, IsFunction}
use Rattle.mir_func.specs.Edits.{instr_place}
use Rattle.mir_meaning.specs.Codes.{block_end, blocks_code}
use Rattle.mir_meaning.specs.Points.{block_rest, from_instr, has_instr, point_item}
use Rattle.split_laws.proofs.Points.{code-at, rest-at}

-- the instruction of an id among others
pub record Among (id : ℕ) (is : List Instr) : Type 0 where
  pub front : List Instr
  pub instr : Instr
  pub back : List Instr
  pub whole : front ++ instr ∷ back ≡ is
  pub named : instr.id ≡ id

lt-suc : (a b : ℕ) → nat_lt (suc a) (suc b) ≡ nat_lt a b
lt-suc a b = grind (arith, nat_tests)

pub among : (id : ℕ) (is : List Instr) → (nat_lt (instr_place id is) (length is) ≡ false) ⊎ Among id is
among id [] = inl refl
among id (i ∷ is) = go (nat_eq i.id id) refl (among id is)
  where
    more : 1 + instr_place id is ≡ suc (instr_place id is)
    more = omega arith

    go : (b : Bool) → nat_eq i.id id ≡ b → (nat_lt (instr_place id is) (length is) ≡ false) ⊎ Among id is → (nat_lt (cond (not b) (1 + instr_place id is) 0) (length (i ∷ is)) ≡ false) ⊎ Among id (i ∷ is)
    go true e ih = inr (record { front = []; instr = i; back = is; whole = refl; named = eqb-true i.id id e })
    go false e (inl z) = inl (ap (λ n. nat_lt n (length (i ∷ is))) more ∙ (lt-suc (instr_place id is) (length is) ∙ z))
    go false e (inr z) = inr (record { front = i ∷ z.front; instr = z.instr; back = z.back; whole = ap (λ xs. i ∷ xs) z.whole; named = z.named })

-- the instruction of an id in its block
pub record Place (id : ℕ) (bs : List Block) : Type 0 where
  pub pre : List Block
  pub block : Block
  pub after : List Block
  pub blocks : pre ++ block ∷ after ≡ bs
  pub inside : Among id block.instrs

pub place-of : (t : Target) (f : Function) (id : ℕ) (bs : List Block) → (from_instr t f id bs ≡ []) ⊎ Place id bs
place-of t f id [] = inl refl
place-of t f id (b ∷ bs) = go (among id b.instrs) (place-of t f id bs)
  where
    go : (has_instr id b ≡ false) ⊎ Among id b.instrs → (from_instr t f id bs ≡ []) ⊎ Place id bs → (from_instr t f id (b ∷ bs) ≡ []) ⊎ Place id (b ∷ bs)
    go (inr z) ih = inr (record { pre = []; block = b; after = bs; blocks = refl; inside = z })
    go (inl e) (inr z) = inr (record { pre = b ∷ z.pre; block = z.block; after = z.after; blocks = ap (λ xs. b ∷ xs) z.blocks; inside = z.inside })
    go (inl e) (inl z) = inl (ap (λ c. cond c (block_rest t f b bs (instr_place id b.instrs)) (from_instr t f id bs)) e ∙ z)

-- the code behind instructions of a block
abbrev pub code-behind : Target → Function → Block → List Block → List Instr → Code
code-behind t f b after is = map (point_item t f b) is ++ (block_end t f b after ∷ blocks_code (point_item t f) t f after)

pub code-here : (t : Target) (f : Function) → IsFunction f.blocks f.next_id → (pre : List Block) (b : Block) (after : List Block) → pre ++ b ∷ after ≡ f.blocks → (front : List Instr) (i : Instr) (back : List Instr) → front ++ i ∷ back ≡ b.instrs
    → from_instr t f i.id f.blocks ≡ code-behind t f b after (i ∷ back)
code-here t f whole pre b after blocks front i back e =
    code-at t f whole pre b after blocks front i back e ∙ ap (code-behind t f b after) (rest-at t f whole pre b after blocks front i back e)
