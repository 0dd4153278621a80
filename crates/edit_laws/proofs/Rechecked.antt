-- The causes that hold as a table tells it do, and certain causes need no other piece.
use Rattle.std.proofs.Common.{◌≡◌, ◌⊎◌, ℕ, Bool, true, false, cond, ◌&&◌, length, List, [], ◌∷◌, ◌++◌, Option, None, Some, refl, sym, ap, ◌∙◌, subst, inl, inr, reverse, eqb-true, eq-eqb}
use Rattle.std.specs.Prelude.{nat_eq}
use Rattle.std.specs.List.{find}
use mathlib.Core.List.{reverse_aux}
use Rattle.mir_meaning.specs.Paths.{Among, here, there, Step, Code, steps_of, last_of, has, Use, Unused, Certain, Into, use_of}
use Rattle.live_lanes.specs.declared.compute.flow.BlockFlow.{BlockFlow}
use Rattle.live_lanes.specs.declared.row.Cause.{Cause}
use Rattle.live_lanes.specs.declared.row.Cause.TheVariants as reasons
use Rattle.live_lanes.specs.declared.row.LaneUse.{LaneUse}
use Rattle.live_lanes.specs.declared.row.LaneRange.{LaneRange}
use Rattle.live_lanes.specs.Graph.{Causes, is_live, writes_in, Founded, by_reading, by_move, by_exit, by_end, by_phi, IsGrown}
use Rattle.live_lanes.specs.Ways.{terminators}
use Rattle.live_lanes.specs.Table.{Numbers, Seen, entry_rank, exit_rank, readings_in, is_certain, cause_of, certain_cause}
use Rattle.live_lanes.specs.Entered.{Shape, reading, reading_of, rows_seen, causes, IsTableOf}
use Rattle.live_lanes.specs.Growth.{piece_in_rows}
use Rattle.live_lanes.proofs.Basics.{none-among, among-append}
use Rattle.live_lanes.proofs.Coded.{has-among, among-has}
use Rattle.live_lanes.proofs.Numbered.{among-cases}
use Rattle.live_lanes.proofs.Whole.{piece-readings, readings-there}
use Rattle.edit_laws.specs.Chains.{Node}
use Rattle.edit_laws.specs.Reasons.{IsReason, for_reading, for_move, for_exit, for_end, for_phi, Touched, AreEdited, edit_none, edit_stays, edit_comes, IsEditOf, IsKept}
use Rattle.edit_laws.specs.Update.{Holds, holds_dead, holds_reading, holds_exit, holds_end}
use Rattle.edit_laws.specs.Rechecked.{IsHeld, held_dead, held_reading, held_exit, held_end, KeepCauses, KeptHeldLaw, HeldLaw, ListedLaw, CertainCauseLaw}
use Rattle.edit_laws.proofs.Carried.{reason-moves, live-same}
use Rattle.edit_laws.proofs.Left.{among-split}
use Rattle.edit_laws.proofs.Needs.{reads-in, count-is, readings-are, entry-at, exit-at}

some-use : (x y : LaneUse) → Some x ≡ Some y → x ≡ y
some-use x y e = cc

never-none : {A : Type 0} (m : Node) → Some m ≡ None → A
never-none m e = absurd (cc)

-- what became of an instruction
stays-after : {touched : ℕ → ℕ → Bool} {ss rs : List Step} → AreEdited touched ss rs → (s : Step) → Among s ss → (r : Step) × Among r rs × (r.id ≡ s.id)
stays-after edit_none s m = absurd (none-among s m)
stays-after (edit_stays {r = r} h a) s here = (r, here, sym h.id)
stays-after (edit_stays h a) s (there m) = let z = stays-after a s m in (z.0, there z.1, z.2)
stays-after (edit_comes h a) s m = let z = stays-after a s m in (z.0, there z.1, z.2)

-- an instruction that stays, at its new place
abbrev Stands : Code → ℕ → ℕ → Type 0
Stands code b id = (us : List Step) × (r : Step) × (vs : List Step) × (steps_of code b ≡ us ++ r ∷ vs) × (r.id ≡ id)

module _ (touched : Touched) (old new : Code) (slots : Numbers) (flow : List BlockFlow) (was : Causes) (rows : List LaneRange) (grown : IsGrown old was) (t : IsTableOf new slots flow rows) (edit : IsEditOf touched old new) (kept : KeepCauses old new was (causes rows)) where
  stays-there : (b : ℕ) (us : List Step) (s : Step) (vs : List Step) → steps_of old b ≡ us ++ s ∷ vs → Stands new b s.id
  stays-there b us s vs e =
      let z = stays-after (edit.steps b) s (subst (Among s) (sym e) (among-append s us vs)) in
      let q = among-split z.0 (steps_of new b) z.1 in
      (q.0, z.0, q.1, q.2, z.2)

  same-reading : (c : Cause) (i j : ℕ) → c ≡ reasons.Reading i → c ≡ reasons.Reading j → i ≡ j
  same-reading c i j e f = let z : reasons.Reading i ≡ reasons.Reading j = sym e ∙ f in cc

  reading-stays : {l b n : ℕ} → Founded old was l b n → (id : ℕ) → was l b n ≡ reasons.Reading id → Stands new b id
  reading-stays (by_reading {l = l} {b = b} before s rest e c u) id h = subst (Stands new b) (same-reading (was l b (writes_in l before)) s.id id c h) (stays-there b before s rest e)
  reading-stays (by_move {l = l} {b = b} before s rest e c u w f) id h = subst (Stands new b) (same-reading (was l b (writes_in l before)) s.id id c h) (stays-there b before s rest e)
  reading-stays (by_exit {x = x} before s rest e c k a f) id h = absurd (let z : reasons.Follower x ≡ reasons.Reading id = sym c ∙ h in cc)
  reading-stays (by_end {x = x} c a f) id h = absurd (let z : reasons.Follower x ≡ reasons.Reading id = sym c ∙ h in cc)
  reading-stays (by_phi c a) id h = absurd (let z : reasons.Phi ≡ reasons.Reading id = sym c ∙ h in cc)

  reading-holds : (l b n id : ℕ) → causes rows l b n ≡ reasons.Reading id → ((a : ℕ) → touched a b id ≡ false) → piece_in_rows slots rows l b (entry_rank slots id) ≡ n → Holds touched new (causes rows) l b n
  reading-holds l b n id c out at = go (reading-stays (grown.founded l b k.number (ap is_live (sym same) ∙ live)) id (sym same ∙ c))
    where
      live : is_live (causes rows l b n) ≡ true
      live = ap is_live c

      k : IsKept old new l b n
      k = (kept l b n live).0

      same : causes rows l b n ≡ was l b k.number
      same = (kept l b n live).1

      go : Stands new b id → Holds touched new (causes rows) l b n
      go z =
          let here-at : writes_in l z.0 ≡ n = sym (entry-at new slots flow rows t l b z.0 z.1 z.2 z.3) ∙ (ap (λ i. piece_in_rows slots rows l b (entry_rank slots i)) z.4 ∙ at) in
          subst (Holds touched new (causes rows) l b) here-at
          (holds_reading z.0 z.1 z.2 z.3 (ap (causes rows l b) here-at ∙ (c ∙ ap reasons.Reading (sym z.4))) (λ a. ap (touched a b) z.4 ∙ out a))

  exit-holds : (l b n x id : ℕ) → causes rows l b n ≡ reasons.Follower x → Among id (terminators flow b) → piece_in_rows slots rows l b (exit_rank slots id) ≡ n → Holds touched new (causes rows) l b n
  exit-holds l b n x id c i at =
      let z = t.ways.terminates b id i in
      let here-at : writes_in l (z.0 ++ z.1 ∷ []) ≡ n = sym (exit-at new slots flow rows t l b z.0 z.1 z.2 z.3) ∙ (ap (λ i. piece_in_rows slots rows l b (exit_rank slots i)) z.4 ∙ at) in
      subst (Holds touched new (causes rows) l b) here-at (holds_exit z.0 z.1 z.2 z.3 (ap (causes rows l b) here-at ∙ c) z.5)

  end-holds : (l b n x : ℕ) → causes rows l b n ≡ reasons.Follower x → length (rows_seen rows l b).segments ≡ n → Holds touched new (causes rows) l b n
  end-holds l b n x c at =
      let here-at : writes_in l (steps_of new b) ≡ n = sym (count-is new slots flow rows t l b) ∙ at in
      subst (Holds touched new (causes rows) l b) here-at (holds_end (ap (causes rows l b) here-at ∙ c))

  held-holds : (l b n : ℕ) → IsHeld touched slots flow rows l b n → Holds touched new (causes rows) l b n
  held-holds l b n (held_dead d) = holds_dead d
  held-holds l b n (held_reading id c out at) = reading-holds l b n id c out at
  held-holds l b n (held_exit x id c i at) = exit-holds l b n x id c i at
  held-holds l b n (held_end x c at) = end-holds l b n x c at

pub kept-held-law : KeptHeldLaw
kept-held-law touched old new slots flow was rows grown t edit kept l b n h = held-holds touched old new slots flow was rows grown t edit kept l b n h

pub held-law : HeldLaw
held-law touched old new slots flow was rows list grown t edit kept listed l b n h = held-holds touched old new slots flow was rows grown t edit keep l b n h
  where
    keep : KeepCauses old new was (causes rows)
    keep a d m live = let k = kept.live a d m live in (k, live-same (kept.kept a d k.number m k.start k.before k.after) live)

pub listed-law : ListedLaw
listed-law touched code slots flow rows list t sides l b us s vs e h = (
  subst (λ k. Among {A = Node} (l, b, k) list) (entry-at code slots flow rows t l b us s vs e) (sides l b s.id h).0,
  subst (λ k. Among {A = Node} (l, b, k) list) (exit-at code slots flow rows t l b us s vs e) (sides l b s.id h).1,
)

-- the last element of a list that passes a test

find-some : (test : LaneUse → Bool) (xs : List LaneUse) (r : LaneUse) → find test xs ≡ Some r → (test r ≡ true) × Among r xs
find-some test [] r e = absurd (cc)
find-some test (x ∷ xs) r e = go (test x) refl e (λ f. find-some test xs r f)
  where
    go : (t : Bool) → test x ≡ t → cond t (Some x) (find test xs) ≡ Some r → (find test xs ≡ Some r → (test r ≡ true) × Among r xs) → (test r ≡ true) × Among r (x ∷ xs)
    go true f g ih = let s = some-use x r g in (ap test (sym s) ∙ f, subst (λ y. Among r (y ∷ xs)) (sym s) here)
    go false f g ih = let z = ih g in (z.0, there z.1)

find-there : (test : LaneUse → Bool) (r : LaneUse) (xs : List LaneUse) → Among r xs → test r ≡ true → is_live (cause_of (find test xs)) ≡ true
find-there test r [] a e = absurd (none-among r a)
find-there test r (x ∷ xs) a e = go (test x) refl (among-cases r x xs a) (λ b. find-there test r xs b e)
  where
    go : (t : Bool) → test x ≡ t → (r ≡ x) ⊎ Among r xs → (Among r xs → is_live (cause_of (find test xs)) ≡ true) → is_live (cause_of (cond t (Some x) (find test xs))) ≡ true
    go true f b ih = refl
    go false f (inl g) ih = absurd (let k : false ≡ true = sym f ∙ ap test (sym g) ∙ e in cc)
    go false f (inr b) ih = ih b

among-reversed : (r : LaneUse) (xs ys : List LaneUse) → Among r (reverse_aux xs ys) → Among r xs ⊎ Among r ys
among-reversed r [] ys a = inr a
among-reversed r (x ∷ xs) ys a = go (among-reversed r xs (x ∷ ys) a)
  where
    last : (r ≡ x) ⊎ Among r ys → Among r (x ∷ xs) ⊎ Among r ys
    last (inl e) = inl (subst (λ y. Among r (y ∷ xs)) e here)
    last (inr b) = inr b

    go : Among r xs ⊎ Among r (x ∷ ys) → Among r (x ∷ xs) ⊎ Among r ys
    go (inl b) = inl (there b)
    go (inr b) = last (among-cases r x ys b)

among-reverse : (r : LaneUse) (xs : List LaneUse) → Among r (reverse xs) → Among r xs
among-reverse r xs a = go (among-reversed r xs [] a)
  where
    go : Among r xs ⊎ Among r [] → Among r xs
    go (inl b) = b
    go (inr b) = absurd (none-among r b)

among-onto : (r : LaneUse) (xs ys : List LaneUse) → Among r xs ⊎ Among r ys → Among r (reverse_aux xs ys)
among-onto r [] ys (inl a) = absurd (none-among r a)
among-onto r [] ys (inr a) = a
among-onto r (x ∷ xs) ys a = among-onto r xs (x ∷ ys) (go a)
  where
    first : (r ≡ x) ⊎ Among r xs → Among r xs ⊎ Among r (x ∷ ys)
    first (inl e) = inr (subst (λ y. Among r (y ∷ ys)) e here)
    first (inr b) = inl b

    go : Among r (x ∷ xs) ⊎ Among r ys → Among r xs ⊎ Among r (x ∷ ys)
    go (inl b) = first (among-cases r x xs b)
    go (inr b) = inr (there b)

use-certain : (i : ℕ) (u : Use) (r : LaneUse) → Among r (reading_of i u) → is_certain r ≡ true → (u ≡ Certain) × (i ≡ r.id)
use-certain i Unused r a e = absurd (none-among r a)
use-certain i Certain r a e = go (among-cases r (reading i None) [] a)
  where
    go : (r ≡ reading i None) ⊎ Among r [] → (Certain ≡ Certain) × (i ≡ r.id)
    go (inl f) = (refl, ap (λ (x : LaneUse). x.id) (sym f))
    go (inr b) = absurd (none-among r b)
use-certain i (Into c) r a e = go (among-cases r (reading i (Some c)) [] a)
  where
    go : (r ≡ reading i (Some c)) ⊎ Among r [] → (Into c ≡ Certain) × (i ≡ r.id)
    go (inl f) = absurd (let g : false ≡ true = ap is_certain (sym f) ∙ e in cc)
    go (inr b) = absurd (none-among r b)

module _ (code : Code) (slots : Numbers) (flow : List BlockFlow) (rows : List LaneRange) (t : IsTableOf code slots flow rows) (l b n : ℕ) where
  abbrev v : Seen
  v = rows_seen rows l b

  abbrev found : Option LaneUse
  found = find is_certain (reverse (readings_in v n))

  by-reading : (o : Option LaneUse) → found ≡ o → is_live (cause_of o) ≡ true → IsReason code l b n (cause_of o) None
  by-reading None f h = absurd (cc)
  by-reading (Some r) f h =
      let y = find-some is_certain (reverse (readings_in v n)) r f in
      let z = reads-in l r (steps_of code b) n (subst (Among r) (readings-are code slots flow rows t l b n) (among-reverse r (readings_in v n) y.1)) in
      let u = use-certain z.1.id (use_of l z.1) r z.4 y.0 in
      reason-moves (for_reading z.0 z.1 z.2 z.3 u.0) z.5 (ap reasons.Reading u.1) refl

  last-read : v.is_read_last ≡ has l (last_of code b)
  last-read = ap (λ (h : Shape). h.is_read_last) (t.entered l b)

  reason-of : (p q : Bool) → v.is_read_last ≡ p → nat_eq n (length v.segments) ≡ q → is_live (cond (p && q) reasons.Phi (cause_of found)) ≡ true → IsReason code l b n (cond (p && q) reasons.Phi (cause_of found)) None
  reason-of true true f g h =
      let at : writes_in l (steps_of code b) ≡ n = sym (eqb-true n (length v.segments) g ∙ count-is code slots flow rows t l b) in
      reason-moves (for_phi (has-among l (last_of code b) (sym last-read ∙ f))) at refl refl
  reason-of true false f g h = by-reading found refl h
  reason-of false q f g h = by-reading found refl h

  certain-there : (p : Bool) → (is_live (cause_of found) ≡ true) ⊎ (p ≡ true) → is_live (cond p reasons.Phi (cause_of found)) ≡ true
  certain-there true o = refl
  certain-there false (inl h) = h
  certain-there false (inr e) = absurd (let z : false ≡ true = e in cc)

  reading-there : (us : List Step) (s : Step) (vs : List Step) → steps_of code b ≡ us ++ s ∷ vs → use_of l s ≡ Certain → writes_in l us ≡ n → is_live (cause_of found) ≡ true
  reading-there us s vs e u at =
      let own : Among (reading s.id None) (reading_of s.id (use_of l s)) = subst (λ k. Among (reading s.id None) (reading_of s.id k)) (sym u) here in
      let inside : Among (reading s.id None) (piece-readings l (steps_of code b) (writes_in l us)) = subst (λ ss. Among (reading s.id None) (piece-readings l ss (writes_in l us))) (sym e) (readings-there l (reading s.id None) us s vs own) in
      let near : Among (reading s.id None) (readings_in v n) = subst (Among (reading s.id None)) (sym (readings-are code slots flow rows t l b n)) (subst (λ k. Among (reading s.id None) (piece-readings l (steps_of code b) k)) at inside) in
      find-there is_certain (reading s.id None) (reverse (readings_in v n)) (among-onto (reading s.id None) (readings_in v n) [] (inl near)) refl

  both-true : (p q : Bool) → p ≡ true → q ≡ true → (p && q) ≡ true
  both-true true true f g = refl
  both-true true false f g = g
  both-true false q f g = f

  phi-there : Among l (last_of code b) → writes_in l (steps_of code b) ≡ n → (v.is_read_last && nat_eq n (length v.segments)) ≡ true
  phi-there a at = both-true v.is_read_last (nat_eq n (length v.segments)) (last-read ∙ among-has l (last_of code b) a) (eq-eqb n (length v.segments) (sym at ∙ sym (count-is code slots flow rows t l b)))

-- a reason that rests on no other piece
certain-reason : (code : Code) (slots : Numbers) (flow : List BlockFlow) (rows : List LaneRange) (t : IsTableOf code slots flow rows) {l b n : ℕ} {c : Cause} {o : Option Node} → IsReason code l b n c o → o ≡ None → is_live (certain_cause (rows_seen rows l b) n) ≡ true
certain-reason code slots flow rows t (for_reading {l = l} {b = b} us s vs e u) g =
    let n : ℕ = writes_in l us in
    certain-there code slots flow rows t l b n ((rows_seen rows l b).is_read_last && nat_eq n (length (rows_seen rows l b).segments)) (inl (reading-there code slots flow rows t l b n us s vs e u refl))
certain-reason code slots flow rows t (for_move {a = a} {b = b} us s vs e u w) g = never-none (a, b, writes_in a (us ++ s ∷ [])) g
certain-reason code slots flow rows t (for_exit {l = l} {x = x} us s vs e k a) g = never-none (l, x, 0) g
certain-reason code slots flow rows t (for_end {l = l} {x = x} a) g = never-none (l, x, 0) g
certain-reason code slots flow rows t (for_phi {l = l} {b = b} a) g =
    let n : ℕ = writes_in l (steps_of code b) in
    certain-there code slots flow rows t l b n ((rows_seen rows l b).is_read_last && nat_eq n (length (rows_seen rows l b).segments)) (inr (phi-there code slots flow rows t l b n a refl))

pub certain-cause-law : CertainCauseLaw
certain-cause-law code slots flow rows t l b n = record {
  reason = λ h. reason-of code slots flow rows t l b n (rows_seen rows l b).is_read_last (nat_eq n (length (rows_seen rows l b).segments)) refl refl h;
  there = λ c r. certain-reason code slots flow rows t r refl;
}
