-- Codes of which the second lacks instructions of the first that do nothing.
use Rattle.std.proofs.Common.{◌≡◌, ◌∷◌, ◌++◌, ◌∙◌, ◌≤◌, ℕ, true, false, cond, List, [], Some, None, refl, sym, ap, subst, arith}
use Rattle.slot_index.specs.Order.{number_of}
use Rattle.mir_meaning.specs.Paths.{Among, here, there, Code, Step, steps_of, last_of, exits_of, has, use_of, is_written, writing_of}
use Rattle.live_lanes.specs.declared.compute.flow.BlockFlow.{BlockFlow}
use Rattle.live_lanes.specs.declared.row.LaneRange.{LaneRange}
use Rattle.live_lanes.specs.Table.{Numbers}
use Rattle.live_lanes.specs.Entered.{IsTableOf, Rises, Start, reading_of, readings_until, starts}
use Rattle.live_lanes.specs.Ways.{terminators}
use Rattle.edit_laws.specs.Deferred.{nothing}
use Rattle.edit_laws.specs.Steps.{AreSteps, no_steps, step_stays, step_goes, AreCodes}

pub data AreLeft : List Step → List Step → Type 0 where
  none_left : AreLeft [] []
  one_left : {s : Step} {ss rs : List Step} → AreLeft ss rs → AreLeft (s ∷ ss) (s ∷ rs)
  one_goes : {id : ℕ} {ss rs : List Step} → AreLeft ss rs → AreLeft ((nothing id).0 ∷ ss) rs

pub record IsLeft (old new : Code) : Type 0 where
  pub steps : (b : ℕ) → AreLeft (steps_of old b) (steps_of new b)
  pub last : (b : ℕ) → last_of old b ≡ last_of new b
  pub exits : (b : ℕ) → exits_of old b ≡ exits_of new b

all-left : (ss : List Step) → AreLeft ss ss
all-left [] = none_left
all-left (s ∷ ss) = one_left (all-left ss)

pub code-left : (code : Code) → IsLeft code code
code-left code = record { steps = λ b. all-left (steps_of code b); last = λ b. refl; exits = λ b. refl }

steps-then : {ss rs us : List Step} → AreLeft ss rs → AreLeft rs us → AreLeft ss us
steps-then none_left b = b
steps-then (one_left a) (one_left b) = one_left (steps-then a b)
steps-then (one_left a) (one_goes b) = one_goes (steps-then a b)
steps-then (one_goes a) b = one_goes (steps-then a b)

pub left-then : (old mid new : Code) → IsLeft old mid → IsLeft mid new → IsLeft old new
left-then old mid new x y = record { steps = λ b. steps-then (x.steps b) (y.steps b); last = λ b. x.last b ∙ y.last b; exits = λ b. x.exits b ∙ y.exits b }

-- they differ at no lane

steps-go : {ss rs : List Step} → AreLeft ss rs → AreSteps (λ l. false) ss rs
steps-go none_left = no_steps
steps-go (one_left a) = step_stays (record { id = refl; leaves = refl; used = λ l o. refl; written = λ l o. refl; apart = λ l x o u. refl }) (steps-go a)
steps-go (one_goes a) = step_goes (record { leaves = refl; unused = λ l o. refl; unwritten = λ l o. refl }) (steps-go a)

pub left-codes : (old new : Code) → IsLeft old new → AreCodes (λ l. false) old new
left-codes old new x = record { steps = λ b. steps-go (x.steps b); last = x.last; exits = x.exits }

-- a table of the first is one of the second

readings-left : (l : ℕ) {ss rs : List Step} → AreLeft ss rs → readings_until l ss ≡ readings_until l rs
readings-left l none_left = refl
readings-left l (one_left {s = s} a) = λ k. reading_of s.id (use_of l s) ++ cond (is_written l s) [] (readings-left l a k)
readings-left l (one_goes a) = readings-left l a

starts-left : (l : ℕ) {ss rs : List Step} → AreLeft ss rs → starts l ss ≡ starts l rs
starts-left l none_left = refl
starts-left l (one_left {s = s} a) =
    λ k. elim (writing_of l s.writes) as (λ o. List Start) [ None ↦ starts-left l a k | Some w ↦ record { start = s.id; early = w.early; from = w.from; readings = readings-left l a k } ∷ starts-left l a k ]
starts-left l (one_goes a) = starts-left l a

among-left : {ss rs : List Step} → AreLeft ss rs → (s : Step) → Among s rs → Among s ss
among-left none_left s m = elim m [ ]
among-left (one_left a) s here = here
among-left (one_left a) s (there m) = there (among-left a s m)
among-left (one_goes a) s m = there (among-left a s m)

-- none of those that go leaves its block
stays-left : {ss rs : List Step} → AreLeft ss rs → (s : Step) → s.leaves ≡ true → Among s ss → Among s rs
stays-left none_left s e m = elim m [ ]
stays-left (one_left a) s e here = here
stays-left (one_left a) s e (there m) = there (stays-left a s e m)
stays-left (one_goes a) s e here = absurd (let z : false ≡ true = e in cc)
stays-left (one_goes a) s e (there m) = stays-left a s e m

pub split-among : (before : List Step) (s : Step) (rest : List Step) → Among s (before ++ s ∷ rest)
split-among [] s rest = here
split-among (x ∷ before) s rest = there (split-among before s rest)

abbrev pub Around : Step → List Step → Type 0
Around s ss = (before : List Step) × (rest : List Step) × (ss ≡ before ++ s ∷ rest)

pub among-split : (s : Step) (ss : List Step) → Among s ss → Around s ss
among-split s [] m = elim m [ ]
among-split s (x ∷ ss) here = ([], ss, refl)
among-split s (x ∷ ss) (there m) = let z = among-split s ss m in (x ∷ z.0, z.1, ap (λ us. x ∷ us) z.2)

-- numbers rise along those that are left, where they keep them
rises-left : (slots slots' : Numbers) {ss rs : List Step} → AreLeft ss rs → ((s : Step) → Among s rs → number_of slots' s.id ≡ number_of slots s.id) → (n m : ℕ) → n ≤ m → Rises slots m ss → Rises slots' n rs
rises-left slots slots' none_left kept n m le r = tt
rises-left slots slots' (one_left {s = s} a) kept n m le r =
    let e : number_of slots' s.id ≡ number_of slots s.id = kept s here in
    (omega (arith, e, r.0, le), omega (arith, e, r.1), rises-left slots slots' a (λ x k. kept x (there k)) (number_of slots' s.id) (number_of slots s.id) (omega (arith, e)) r.2)
rises-left slots slots' (one_goes {id = id} a) kept n m le r = rises-left slots slots' a kept n (number_of slots id) (omega (arith, r.0, le)) r.2

module _ (old new : Code) (left : IsLeft old new) (slots slots' : Numbers) (flow : List BlockFlow) (rows : List LaneRange) (t : IsTableOf old slots flow rows) where
  terminates : (b id : ℕ) → Among id (terminators flow b) → (before : List Step) × (s : Step) × (rest : List Step) × (steps_of new b ≡ before ++ s ∷ rest) × (s.id ≡ id) × (s.leaves ≡ true)
  terminates b id m =
      let z = t.ways.terminates b id m in
      let was : Among z.1 (steps_of old b) = subst (Among z.1) (sym z.3) (split-among z.0 z.1 z.2) in
      let w = among-split z.1 (steps_of new b) (stays-left (left.steps b) z.1 z.5 was) in
      (w.0, z.1, w.1, w.2, z.4, z.5)

  pub left-table : ((b : ℕ) (s : Step) → Among s (steps_of new b) → number_of slots' s.id ≡ number_of slots s.id) → IsTableOf new slots' flow rows
  left-table kept = record {
    entered = λ l b. t.entered l b ∙ (λ k. record { is_read_last = has l (left.last b k); readings = readings-left l (left.steps b) k; segments = starts-left l (left.steps b) k });
    numbered = λ b. rises-left slots slots' (left.steps b) (kept b) 0 0 (omega arith) (t.numbered b);
    ways = record {
      back = λ b x m. t.ways.back b x (subst (Among x) (sym (left.exits b)) m);
      forth = λ b x m. subst (Among x) (left.exits b) (t.ways.forth b x m);
      leaves = λ b s m e. t.ways.leaves b s (among-left (left.steps b) s m) e;
      terminates = terminates;
    };
    matched = λ b s m. t.matched b s (among-left (left.steps b) s m);
    few = t.few;
  }
