-- What the paths of reaching definitions say: a place behind which the lane is written is on no path beyond it, and
-- in worked examples both of two definitions reach the reading, or the second alone.
use Rattle.std.proofs.Common.{◌≡◌, ◌∷◌, ℕ, Bool, true, false, refl, subst, ap, inl, ⊎_elim, [], length, arith}
use Rattle.std.specs.Prelude.{◌||◌, nat_eq}
use Rattle.target_base.specs.Mini.{mini_target}
use Rattle.meaning.specs.declared.types.Lane.{Lane}
use Rattle.meaning.specs.declared.types.Lane.TheVariants.{VirtualLane, UnitLane, SlotLane}
use Rattle.meaning.specs.declared.types.Write.{Write}
use Rattle.meaning.specs.Lanes.{Writes, same_lane}
use Rattle.meaning.specs.Code.{Edge, Item, Code, found}
use Rattle.meaning.specs.Live.{Among, here, there, writes_of, exits_of, in_order, Writing}
use Rattle.mir_func.specs.Value.{Function}
use Rattle.mir_meaning.specs.Codes.{item_of}
use Rattle.mir_meaning.specs.Points.{point_item, points_of}
use Rattle.spiller.specs.Reaching.{Leads, stays, passes, leaps, Reaches}
use Rattle.spiller.proofs.Sample.{function, block, instr, def, val, imm, MOV32ri, STORE32mr, RET}
use Rattle.spiller.proofs.Examples.{two_reach_before}

-- no path goes on behind an instruction that writes the lane
pub no_further : {code : Code} {l : Lane} {i : Item} {p q : Code} → Writing i l → Leads code l (i ∷ p) q → i ∷ p ≡ q
no_further w stays = refl
no_further w (passes o n h) = absurd (n w)
no_further w (leaps a n h) = absurd (n w)

none : {A : Type 0} {x : A} → Among x [] → ⊥
none a = elim a [ ]

abbrev writes_lane : Writes → Lane → Bool
writes_lane [] l = false
writes_lane (w ∷ ws) l = same_lane w.lane l || writes_lane ws l

same_number : (n : ℕ) → nat_eq n n ≡ true
same_number n = grind arith

same_self : (l : Lane) → same_lane l l ≡ true
same_self (VirtualLane v k) = rw (same_number v) (same_number k)
same_self (UnitLane u) = same_number u
same_self (SlotLane s k w) = rw (same_number s) (rw (same_number k) (same_number w))

written : {w : Write} {ws : Writes} (l : Lane) → Among w ws → w.lane ≡ l → writes_lane ws l ≡ true
written {w = w} l here e = rw (subst (λ b. same_lane w.lane b ≡ true) e (same_self w.lane)) refl
written {ws = x ∷ xs} l (there a) e = or_true (same_lane x.lane l) (written l a e)
  where
    or_true : (a : Bool) {b : Bool} → b ≡ true → (a || b) ≡ true
    or_true true h = refl
    or_true false h = h

skips : (i : Item) (l : Lane) → writes_lane (writes_of i) l ≡ false → Writing i l → ⊥
skips i l unwritten h =
    let yes = written l h.1 h.2 in
    absurd (cc)

past : {code : Code} {l : Lane} {i : Item} {p q : Code} → in_order i ≡ true → writes_lane (writes_of i) l ≡ false → Leads code l p q → Leads code l (i ∷ p) q
past {l = l} {i = i} o unwritten h = passes o (skips i l unwritten) h

across : {code : Code} {l : Lane} {i : Item} {p q : Code} {e : Edge} → Among e (exits_of i) → writes_lane (writes_of i) l ≡ false → Leads code l (found e.block code) q → Leads code l (i ∷ p) q
across {l = l} {i = i} a unwritten h = leaps a (skips i l unwritten) h

-- round the block of the second definition, and past the call
pub first_reaches : Reaches mini_target two_reach_before 0 0 0 5
unfolding mini_target points_of point_item item_of
first_reaches = (((_, here, refl), inl (refl, past refl refl (across here refl (past refl refl stays)))), inl (_, there here, here))

-- from the end of its block
pub last_reaches : Reaches mini_target two_reach_before 0 3 0 5
unfolding mini_target points_of point_item item_of
last_reaches = (((_, here, refl), inl (refl, across here refl (past refl refl stays))), inl (_, there here, here))

-- the second of two definitions in order overwrites the first
abbrev overwritten : Function
overwritten = function 4 (0 ∷ []) (
    block 0 [] [] (
    instr 0 MOV32ri (def 0 ∷ imm 7 ∷ []) ∷
    instr 1 MOV32ri (def 0 ∷ imm 9 ∷ []) ∷
    instr 2 STORE32mr (val 0 ∷ imm 0 ∷ val 0 ∷ []) ∷
    instr 3 RET [] ∷ []) ∷ [])

pub second_reaches : Reaches mini_target overwritten 0 1 0 2
unfolding mini_target points_of point_item item_of
second_reaches = (((_, here, refl), inl (refl, stays)), inl (_, here, here))

other_place : (i : Item) (p q : Code) → Writing i (VirtualLane 0 0) → Leads q (VirtualLane 0 0) (i ∷ p) p → ⊥
other_place i p q w h =
    let e = ap length (no_further w h) in
    omega (arith, e)

pub first_does_not : Reaches mini_target overwritten 0 0 0 2 → ⊥
unfolding mini_target points_of point_item item_of
first_does_not h = ⊎_elim (λ x. other_place _ _ _ (_, here, refl) x.1) (λ x. none x.1) h.0.1
