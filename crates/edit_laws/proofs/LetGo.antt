-- Lanes that an edited code names nowhere are let go, live or not: the pieces of the others are brought up to date as they are where
-- nothing of those lanes is touched.
use Rattle.std.proofs.Common.{◌≡◌, ◌⊎◌, ℕ, zero, suc, Bool, true, false, cond, List, [], ◌∷◌, ◌++◌, Option, None, Some, refl, sym, ap, ◌∙◌, inl, inr}
use Rattle.mir_meaning.specs.Paths.{Among, Step, Code, steps_of}
use Rattle.live_lanes.specs.declared.row.Cause.{Cause}
use Rattle.live_lanes.specs.declared.row.Cause.TheVariants as causes
use Rattle.live_lanes.specs.Graph.{Causes, is_live, writes_in, IsGrown}
use Rattle.live_lanes.specs.Table.{Numbers}
use Rattle.live_lanes.specs.Entered.{IsNumbered}
use Rattle.live_lanes.specs.Laws.{AllMatched}
use Rattle.edit_laws.specs.Chains.{Node, Notes, cause_at, Ends, at_none, at_next}
use Rattle.edit_laws.specs.LetGo.{IsUnnamed}
use Rattle.edit_laws.specs.Reasons.{ReasonFor, cause_of, counts, Touched, IsEditOf, Begins, at_start, IsKept, carried, AreCarried, AreListed}
use Rattle.edit_laws.specs.Update.{Holds, holds_dead, holds_reading, holds_exit, holds_end, falling}
use Rattle.edit_laws.proofs.Begun.{one-number}
use Rattle.edit_laws.proofs.Carried.{reason-moves, first_notes, all-chained, all-live, all-right, all-hold, all-listed}
use Rattle.edit_laws.proofs.CodeLanes.{touched_named, fewer-false, edit-still, more_listed, more-listed, listed-only}
use Rattle.edit_laws.proofs.Fallen.{no-other, holds-moves, Falling}
use Rattle.edit_laws.proofs.Unnamed.{begins-first, reason-idle, reason-apart}

-- the code names none of the lanes that the test tells, and they are live nowhere; all others are live as before
pub record AreCarriedBut (lets_go : ℕ → Bool) (old new : Code) (was now : Causes) : Type 0 where
  pub unnamed : (l : ℕ) → lets_go l ≡ true → IsUnnamed new l
  pub dead : (l b n : ℕ) → lets_go l ≡ true → is_live (now l b n) ≡ false
  pub kept : (l b m n : ℕ) (start : Option ℕ) → lets_go l ≡ false → Begins old l b m start → Begins new l b n start → now l b n ≡ was l b m
  pub live : (l b n : ℕ) → lets_go l ≡ false → is_live (now l b n) ≡ true → IsKept old new l b n

-- and the pieces on both sides of all that is touched at the others are listed
abbrev pub AreListedBut : (ℕ → Bool) → Touched → Code → List Node → Type 0
AreListedBut lets_go touched code list =
    (l b : ℕ) (before : List Step) (s : Step) (rest : List Step) → lets_go l ≡ false → steps_of code b ≡ before ++ s ∷ rest → touched l b s.id ≡ true
    → Among {A = Node} (l, b, writes_in l before) list × Among {A = Node} (l, b, writes_in l (before ++ s ∷ [])) list

-- what holds where more is touched holds where less is
holds-fewer : {touched fewer : Touched} {code : Code} {why : Causes} {l b n : ℕ} → Holds touched code why l b n → ((a c id : ℕ) → touched a c id ≡ false → fewer a c id ≡ false) → Holds fewer code why l b n
holds-fewer (holds_dead d) less = holds_dead d
holds-fewer (holds_reading {b = b} before s rest e c t) less = holds_reading before s rest e c (λ a. less a b s.id (t a))
holds-fewer (holds_exit before s rest e c t) less = holds_exit before s rest e c t
holds-fewer (holds_end c) less = holds_end c

-- what would be live if the lanes weren't let go: their pieces that begin with blocks, as before
abbrev first_only : Cause → ℕ → Cause
first_only c zero = c
first_only c (suc n) = causes.None

abbrev pub unless_gone : (ℕ → Bool) → Causes → Causes → Causes
unless_gone lets_go was now l b n = cond (lets_go l) (first_only (was l b 0) n) (now l b n)

-- no piece of them is rested on
abbrev apart_from : (ℕ → Bool) → Option Node → Option Node
apart_from lets_go None = None
apart_from lets_go (Some m) = cond (lets_go m.0) None (Some m)

none-is : (m : Node) → None ≡ Some m → ⊥
none-is m e = cc

some-is : (k m : Node) → Some k ≡ Some m → k ≡ m
some-is k m e = cc

module _ (touched : Touched) (old new : Code) (slots slots' : Numbers) (was now : Causes) (lets_go : ℕ → Bool) (grown : IsGrown old was) (numbered : IsNumbered old slots) (numbered' : IsNumbered new slots') (edit : IsEditOf touched old new) (c : AreCarriedBut lets_go old new was now) (list : List Node) (listed : AreListedBut lets_go touched new list) where
  abbrev pub fewer : Touched
  fewer = touched_named lets_go old touched

  abbrev pub before : Causes
  before = unless_gone lets_go was now

  abbrev pub all-list : List Node
  all-list = more_listed touched old new lets_go c.unnamed list listed

  gone-cause : (l b n : ℕ) → lets_go l ≡ true → before l b n ≡ first_only (was l b 0) n
  gone-cause l b n e = ap (λ u. cond u (first_only (was l b 0) n) (now l b n)) e

  pub other-cause : (l b n : ℕ) → lets_go l ≡ false → before l b n ≡ now l b n
  other-cause l b n e = ap (λ u. cond u (first_only (was l b 0) n) (now l b n)) e

  pub edit-fewer : IsEditOf fewer old new
  edit-fewer = edit-still touched old new lets_go c.unnamed edit

  pub all-carried : AreCarried fewer old new was before
  all-carried = record {
    kept = λ l b m n start u v. carried (same l b m n start u v (lets_go l) refl);
    live = λ l b n live. there l b n live (lets_go l) refl;
  }
    where
      same : (l b m n : ℕ) (start : Option ℕ) → Begins old l b m start → Begins new l b n start → (t : Bool) → lets_go l ≡ t → before l b n ≡ was l b m
      same l b m n start u v true e =
          let y = begins-first new v (c.unnamed l e) in
          let z : m ≡ 0 = one-number old slots numbered u at_start y.1 in
          gone-cause l b n e ∙ (ap (first_only (was l b 0)) y.0 ∙ ap (was l b) (sym z))
      same l b m n start u v false e = other-cause l b n e ∙ c.kept l b m n start e u v

      there : (l b n : ℕ) → is_live (before l b n) ≡ true → (t : Bool) → lets_go l ≡ t → IsKept old new l b n
      there l b zero live true e = record { number = 0; start = None; before = at_start; after = at_start }
      there l b (suc n) live true e = no-other (is_live (before l b (suc n))) live (ap is_live (gone-cause l b (suc n) e))
      there l b n live false e = c.live l b n e (ap is_live (sym (other-cause l b n e)) ∙ live)

  pub all-listed-now : AreListed fewer new all-list
  all-listed-now = more-listed touched old new lets_go c.unnamed list listed

  pub only-listed : (n : Node) → lets_go n.0 ≡ false → Among n all-list → Among n list
  only-listed = listed-only touched old new lets_go c.unnamed list listed

  module _ (matched : AllMatched new) where
    abbrev notes : Notes
    notes = first_notes old new before

    abbrev pub on : Notes
    on n = cond (lets_go n.0) None (apart_from lets_go (notes n))

    on-gone : (n : Node) → lets_go n.0 ≡ true → on n ≡ None
    on-gone n e = ap (λ u. cond u None (apart_from lets_go (notes n))) e

    on-other : (n : Node) → lets_go n.0 ≡ false → on n ≡ apart_from lets_go (notes n)
    on-other n e = ap (λ u. cond u None (apart_from lets_go (notes n))) e

    apart-only : (o : Option Node) (m : Node) → apart_from lets_go o ≡ Some m → (o ≡ Some m) × (lets_go m.0 ≡ false)
    apart-only None m e = absurd (none-is m e)
    apart-only (Some k) m e = go (lets_go k.0) refl e
      where
        go : (u : Bool) → lets_go k.0 ≡ u → cond u None (Some k) ≡ Some m → (Some k ≡ Some m) × (lets_go m.0 ≡ false)
        go true f g = absurd (none-is m g)
        go false f g = (g, ap (λ (z : Node). lets_go z.0) (sym (some-is k m g)) ∙ f)

    apart-same : (o : Option Node) → ((m : Node) → o ≡ Some m → lets_go m.0 ≡ false) → apart_from lets_go o ≡ o
    apart-same None h = refl
    apart-same (Some k) h = ap (λ u. cond u None (Some k)) (h k refl)

    -- a live piece is one of another lane
    other-lane : (n : Node) → cause_at now n ≡ true → lets_go n.0 ≡ false
    other-lane n live = go (lets_go n.0) refl
      where
        go : (u : Bool) → lets_go n.0 ≡ u → lets_go n.0 ≡ false
        go true e = no-other (cause_at now n) live (c.dead n.0 n.1 n.2 e)
        go false e = e

    -- a chain ends, or ends before
    chain-at : (n : Node) → (on n ≡ apart_from lets_go (notes n) → Ends on n) → Ends on n
    chain-at n more = go (lets_go n.0) refl
      where
        go : (u : Bool) → lets_go n.0 ≡ u → Ends on n
        go true e = at_none (on-gone n e)
        go false e = more (on-other n e)

    ends-still : {n : Node} → Ends notes n → Ends on n
    ends-still (at_none {n = n} e) = chain-at n (λ f. at_none (f ∙ ap (apart_from lets_go) e))
    ends-still (at_next {n = n} {m = m} e x) = let y : Ends on m = ends-still x in chain-at n (λ f. next (lets_go m.0) refl (f ∙ ap (apart_from lets_go) e) y)
      where
        next : (u : Bool) → lets_go m.0 ≡ u → on n ≡ cond (lets_go m.0) None (Some m) → Ends on m → Ends on n
        next true g f y = at_none (f ∙ ap (λ u. cond u None (Some m)) g)
        next false g f y = at_next (f ∙ ap (λ u. cond u None (Some m)) g) y

    -- a right cause of another lane is right still
    right-of : (n : Node) → lets_go n.0 ≡ false → ReasonFor new n (cause_of before n) (notes n) → ReasonFor new n (cause_of now n) (on n)
    right-of n o r = reason-moves r refl (other-cause n.0 n.1 n.2 o) (sym (on-other n o ∙ apart-same (notes n) (λ m e. reason-apart new r lets_go c.unnamed o m e)))

    live-before : (n : Node) → lets_go n.0 ≡ false → cause_at before n ≡ cause_at now n
    live-before n o = ap is_live (other-cause n.0 n.1 n.2 o)

    pub holds-right : (n : Node) → cause_at now n ≡ true → Holds touched new now n.0 n.1 n.2 → ReasonFor new n (cause_of now n) (on n)
    holds-right n live h =
        let o = other-lane n live in
        let h' : Holds fewer new before n.0 n.1 n.2 = holds-fewer (holds-moves h before (other-cause n.0 n.1 n.2 o)) (fewer-false touched old new lets_go c.unnamed) in
        right-of n o (all-hold fewer old new slots slots' was before grown numbered numbered' matched edit-fewer all-carried all-list all-listed-now n (live-before n o ∙ live) h')

    rests-live : (n m : Node) → cause_at now n ≡ true → on n ≡ Some m → cause_at now m ≡ true
    rests-live n m live e =
        let z = apart-only (notes n) m (sym (on-other n (other-lane n live)) ∙ e) in
        sym (live-before m z.1) ∙ all-live fewer old new slots slots' was before grown numbered numbered' matched edit-fewer all-carried all-list all-listed-now n m z.0

    right-or-listed : (n : Node) → cause_at now n ≡ true → ReasonFor new n (cause_of now n) (on n) ⊎ (Among n list × ((cause_of now n ≡ cause_of now n) × (on n ≡ on n)))
    right-or-listed n live = go (other-lane n live) (all-right fewer old new slots slots' was before grown numbered numbered' matched edit-fewer all-carried all-list all-listed-now n (live-before n (other-lane n live) ∙ live))
      where
        go : lets_go n.0 ≡ false → ReasonFor new n (cause_of before n) (notes n) ⊎ Among n all-list → ReasonFor new n (cause_of now n) (on n) ⊎ (Among n list × ((cause_of now n ≡ cause_of now n) × (on n ≡ on n)))
        go o (inl r) = inl (right-of n o r)
        go o (inr a) = inr (only-listed n o a, (refl, refl))

    counted : (n : Node) (d : Cause) (o : Option Node) → lets_go n.0 ≡ false → ReasonFor new n d o → counts now o ≡ true → counts before o ≡ true
    counted n d None f r up = refl
    counted n d (Some m) f r up = live-before m (reason-apart new r lets_go c.unnamed f m refl) ∙ up

    idle-listed : (n : Node) (d : Cause) (o : Option Node) → cause_at now n ≡ false → ReasonFor new n d o → counts now o ≡ true → Among n list
    idle-listed n d o dead r up = go (lets_go n.0) refl
      where
        go : (u : Bool) → lets_go n.0 ≡ u → Among n list
        go true e = absurd (reason-idle new now r (c.unnamed n.0 e) (λ x. c.dead n.0 x 0 e) up)
        go false e =
            only-listed n e
            (all-listed fewer old new slots slots' was before grown numbered numbered' matched edit-fewer all-carried all-list all-listed-now n d o (live-before n e ∙ dead) r (counted n d o e r up))

    pub carried-over : Falling touched new now on holds-right (falling now list [] list)
    carried-over = record {
      on = on;
      ends = λ n. ends-still (all-chained fewer old new slots slots' was before grown numbered numbered' matched edit-fewer all-carried all-list all-listed-now n);
      rest = λ n m live e. inl (rests-live n m live e);
      right = right-or-listed;
      idle = idle-listed;
      kept = λ n. inr refl;
    }
