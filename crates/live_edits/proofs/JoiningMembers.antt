-- Members of lists that are filtered or put together.
use Rattle.std.proofs.Common.{◌∷◌, ◌++◌, Bool, true, false, cond, List, []}
use Rattle.std.specs.Prelude.{filter, flat_map}
use Rattle.meaning.specs.Live.{Among, here, there}
use Rattle.mir_func.specs.declared.func.Block.{Block}
use Rattle.mir_func.specs.declared.func.Instr.{Instr}

pub filter-member : {X : Type 0} (test : X → Bool) (xs : List X) (x : X) → Among x (filter test xs) → Among x xs
filter-member test [] x a = a
filter-member {X = X} test (y ∷ ys) x a = go x (test y) a (filter-member test ys x)
  where
    go : (z : X) (u : Bool) → Among z (cond u (y ∷ filter test ys) (filter test ys)) → (Among z (filter test ys) → Among z ys) → Among z (y ∷ ys)
    go z true here later = here
    go z true (there m) later = there (later m)
    go z false m later = there (later m)

pub among-first : {X : Type 0} (x : X) (xs ys : List X) → Among x xs → Among x (xs ++ ys)
among-first x [] ys m = elim m [ ]
among-first x (z ∷ xs) ys here = here
among-first x (z ∷ xs) ys (there m) = there (among-first x xs ys m)

pub among-later : {X : Type 0} (x : X) (xs ys : List X) → Among x ys → Among x (xs ++ ys)
among-later x [] ys m = m
among-later x (z ∷ xs) ys m = there (among-later x xs ys m)

pub instr-member : (b : Block) (i : Instr) (bs : List Block) → Among b bs → Among i b.instrs → Among i (flat_map (λ (c : Block). c.instrs) bs)
instr-member b i [] a m = elim a [ ]
instr-member b i (c ∷ bs) here m = among-first i c.instrs (flat_map (λ (c : Block). c.instrs) bs) m
instr-member b i (c ∷ bs) (there a) m = among-later i c.instrs (flat_map (λ (c : Block). c.instrs) bs) (instr-member b i bs a m)
