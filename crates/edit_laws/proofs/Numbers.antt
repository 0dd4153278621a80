-- A computed table in which more lanes get numbers.
use Rattle.std.proofs.Common.{◌≡◌, ◌∷◌, ℕ, suc, true, false, List, [], Option, refl, subst, map}
use Rattle.meaning.specs.Live.{Among, here, there}
use Rattle.mir_func.specs.declared.func.Block.{Block}
use Rattle.mir_func.specs.declared.func.Instr.{Instr}
use Rattle.mir_meaning.specs.Paths.{Code, Step, steps_of}
use Rattle.instr_effects.specs.Numbered.{number_in}
use Rattle.live_lanes.specs.declared.row.LaneRange.{LaneRange}
use Rattle.live_lanes.specs.Coded.{Doing, bodies_from, entries, last_at}
use Rattle.live_lanes.specs.Doing.{doing_of}
use Rattle.live_lanes.specs.Flowing.{edge_places}
use Rattle.live_lanes.specs.Ordered.{place_of}
use Rattle.live_lanes.specs.Table.{Numbers as Slots}
use Rattle.live_laws.proofs.Exact.Inside.{all}
use Rattle.edit_laws.specs.Kept.{code_in, AreRightIn}
use Rattle.edit_laws.specs.Numbers.{NumbersLaw}
use Rattle.edit_laws.specs.Steps.{AreSteps, no_steps, step_stays, AreCodes}
use Rattle.edit_laws.proofs.Kept.{kept-law}

-- code beside itself, where no lane is concerned

same-steps : (ss : List Step) → AreSteps (λ l. false) ss ss
same-steps [] = no_steps
same-steps (s ∷ ss) = step_stays (record { id = refl; leaves = refl; used = λ l o. refl; written = λ l o. refl; apart = λ l a o u. refl }) (same-steps ss)

pub same-code : (c : Code) → AreCodes (λ l. false) c c
same-code c = record { steps = λ b. same-steps (steps_of c b); last = λ b. refl; exits = λ b. refl }

-- codes of instructions that do the same

module _ (doing doing' : Doing) (place : ℕ → Option ℕ) where
  instrs-do : (is : List Instr) → ((i : Instr) → Among i is → doing i ≡ doing' i) → map doing is ≡ map doing' is
  instrs-do [] h = refl
  instrs-do (i ∷ is) h = λ k. h i here k ∷ instrs-do is (λ j m. h j (there m)) k

  pub entries-do : (bs : List Block) → ((b : Block) (i : Instr) → Among b bs → Among i b.instrs → doing i ≡ doing' i) → entries doing bs ≡ entries doing' bs
  entries-do [] h = refl
  entries-do (b ∷ bs) h = λ k. instrs-do b.instrs (λ i m. h b i here m) k ∷ entries-do bs (λ c i m n. h c i (there m) n) k

  steps-do : (is : List Instr) → ((i : Instr) → Among i is → doing i ≡ doing' i) → map (λ i. (doing i).0) is ≡ map (λ i. (doing' i).0) is
  steps-do [] h = refl
  steps-do (i ∷ is) h = λ k. (h i here k).0 ∷ steps-do is (λ j m. h j (there m)) k

  pub bodies-do : (whole : List Block) → entries doing whole ≡ entries doing' whole → (n : ℕ) (bs : List Block) → ((b : Block) (i : Instr) → Among b bs → Among i b.instrs → doing i ≡ doing' i) → bodies_from doing place whole n bs ≡ bodies_from doing' place whole n bs
  bodies-do whole e n [] h = refl
  bodies-do whole e n (b ∷ bs) h = λ k. record { steps = steps-do b.instrs (λ i m. h b i here m) k; last = last_at place (e k) n; exits = edge_places place b.successors } ∷ bodies-do whole e (suc n) bs (λ c i m o. h c i (there m) o) k

-- where no lane is told, nothing is asked of the lanes told
pub none-told : (code : Code) (slots : Slots) (rows : List LaneRange) → AreRightIn (λ l. false) code slots rows
none-told code slots rows = record {
  live = record {
    reading = λ b l o before s rest e u. absurd (let z : false ≡ true = o in cc);
    move = λ b l a o before s rest e u h. absurd (let z : false ≡ true = o in cc);
    exit = λ b l k o before s rest e u m h. absurd (let z : false ≡ true = o in cc);
    end = λ b l k o m h. absurd (let z : false ≡ true = o in cc);
    phi = λ b l o m. absurd (let z : false ≡ true = o in cc);
    founded = λ l b n o h. absurd (let z : false ≡ true = o in cc);
  };
  ends = λ l b n o. absurd (let z : false ≡ true = o in cc);
}

pub numbers-law : NumbersLaw
numbers-law t f x y computed rules last does laid rows =
    let place : ℕ → Option ℕ = λ n. place_of n f.blocks in
    let old = doing_of t f (number_in x.lanes) in
    let new = doing_of t f (number_in y.lanes) in
    let codes : code_in t f x ≡ code_in t f y = bodies-do old new place f.blocks (entries-do old new place f.blocks does) 0 f.blocks does in
    kept-law t f f x y (λ l. false) computed (all t f x computed rules last) laid (subst (AreCodes (λ l. false) (code_in t f x)) codes (same-code (code_in t f x))) rows
    (none-told (code_in t f y) y.order.slots y.rows.rows.items)
