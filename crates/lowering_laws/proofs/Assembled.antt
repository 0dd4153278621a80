-- A register that is put together of parts one after the other, in itself or in another one that is copied to it.
use Rattle.std.proofs.Common.{◌≡◌, ◌⊎◌, inl, inr, ◌∷◌, ◌++◌, ◌∙◌, ◌<◌, ◌≤◌, ℕ, Bool, true, false, cond, List, Some, None, map, length, refl, sym, ap, subst, append_assoc, arith, []}
use Rattle.target_base.specs.declared.types.Target.{Target}
use Rattle.target_base.specs.Registers.{lanes_of}
use Rattle.meaning.specs.Lanes.{Writes, filled, settled, through}
use Rattle.meaning.specs.Live.{Among, here, there}
use Rattle.meaning.specs.declared.types.Lane.{Lane}
use Rattle.meaning.specs.declared.types.Lane.TheVariants.{VirtualLane}
use Rattle.meaning.specs.declared.types.Source.{Source}
use Rattle.meaning.specs.declared.types.Source.TheVariants.{FromLane, Undef}
use Rattle.mir_func.specs.Value.{Function}
use Rattle.mir_meaning.specs.Registers.{numbers, operand_lanes, use_sources}
use Rattle.mir_meaning.specs.Items.{moved, undefined}
use Rattle.two_address.specs.Sequences.{filled_lanes}
use Rattle.two_address.specs.declared.sequences.SubregInput.{SubregInput}
use Rattle.instr_effects.proofs.Members.{in-either, left-in, map-in, member-elim, member-none, right-in}
use Rattle.live_laws.proofs.Effects.Moved.{Apart}
use Rattle.lowering_laws.proofs.Built.{elsewhere, old-not-new, renamed-moves, undef-before, whole_copy}
use Rattle.lowering_laws.proofs.Found.{place, there-place}
use Rattle.lowering_laws.proofs.Olds.{is_old}
use Rattle.lowering_laws.proofs.Parted.{IsOf, apart-right, apart-split, lane-number, map-length, moved-lane, moved-written, written-either, written-left, written-right}
use Rattle.lowering_laws.proofs.Traced.{filled-free, filled-left, filled-right, is_lane_of, is_written, lanes_by, moved-apart, traced, undefined-apart, written-append}
use Rattle.lowering_laws.proofs.Undefs.{GivesAlike, Leaves, moved-among}

-- writes that leave all but a register's lanes leave what other registers give
pub source-leaves : (v : ℕ) (ws : Writes) → ((l : Lane) → is_lane_of v l ≡ false → is_written ws l ≡ false) → (u : Bool) (ls : List Lane) → (u ≡ false → (a : Lane) → Among a ls → is_lane_of v a ≡ false) → (s : Source) → Among s (map (cond u (λ l. Undef) FromLane) ls) → settled (through ws s) ≡ s
source-leaves v ws free u [] h s m = absurd (member-none s m)
source-leaves v ws free true (l ∷ ls) h s m = member-elim s Undef (map (λ (l : Lane). Undef) ls) (λ e. subst (λ z. settled (through ws z) ≡ z) (sym e) refl) (λ k. source-leaves v ws free true ls (λ e. absurd (cc)) s k) m
source-leaves v ws free false (l ∷ ls) h s m = member-elim s (FromLane l) (map FromLane ls) (λ e. subst (λ z. settled (through ws z) ≡ z) (sym e) (ap settled (filled-free ws l (free l (h refl l here))))) (λ k. source-leaves v ws free false ls (λ e a j. h e a (there j)) s k) m

module _ (t : Target) (H : Function) where
  module _ (v : ℕ) where
    -- a part whose input is long enough, and of another register where it is read
    pub record PartFits (p : SubregInput) : Type 0 where
      pub long : length (lanes_of t p.index) ≤ length (operand_lanes t H p.input)
      pub other : p.input.undef ≡ false → (a : Lane) → Among a (operand_lanes t H p.input) → is_lane_of v a ≡ false

    abbrev pub AllFit : List SubregInput → Type 0
    AllFit [] = Unit {0}
    AllFit (p ∷ ps) = PartFits p × AllFit ps

    abbrev pub gives : SubregInput → Writes
    gives p = moved false (lanes_by v (lanes_of t p.index)) (use_sources t H p.input)

    abbrev pub given : List SubregInput → Writes
    given [] = []
    given (p ∷ ps) = gives p ++ given ps

    abbrev pub into : List SubregInput → List Writes
    into [] = []
    into (p ∷ ps) = gives p ∷ into ps

    pub given-lane : (ps : List SubregInput) (l : Lane) → is_written (given ps) l ≡ true → IsOf v (filled_lanes t ps) l
    given-lane [] l e = absurd (cc)
    given-lane (p ∷ ps) l e = go (is_written (gives p) l) refl (given-lane ps l)
      where
        go : (y : Bool) → is_written (gives p) l ≡ y → (is_written (given ps) l ≡ true → IsOf v (filled_lanes t ps) l) → IsOf v (lanes_of t p.index ++ filled_lanes t ps) l
        go true q ih = let z = moved-lane v (lanes_of t p.index) (use_sources t H p.input) l q in (z.0, z.1, left-in z.0 (lanes_of t p.index) (filled_lanes t ps) z.2)
        go false q ih = let z = ih (written-either (gives p) (given ps) l e q) in (z.0, z.1, right-in z.0 (lanes_of t p.index) (filled_lanes t ps) z.2)

    pub given-written : (ps : List SubregInput) → AllFit ps → (k : ℕ) → Among k (filled_lanes t ps) → is_written (given ps) (VirtualLane v k) ≡ true
    given-written [] x k m = absurd (member-none k m)
    given-written (p ∷ ps) x k m = go (in-either k (lanes_of t p.index) (filled_lanes t ps) m) (given-written ps x.1 k)
      where
        sources : length (use_sources t H p.input) ≡ length (operand_lanes t H p.input)
        sources = map-length (cond p.input.undef (λ (l : Lane). Undef) FromLane) (operand_lanes t H p.input)

        go : Among k (lanes_of t p.index) ⊎ Among k (filled_lanes t ps) → (Among k (filled_lanes t ps) → is_written (given ps) (VirtualLane v k) ≡ true) → is_written (gives p ++ given ps) (VirtualLane v k) ≡ true
        go (inl m) ih = written-left (gives p) (given ps) (VirtualLane v k) (moved-written v (lanes_of t p.index) (use_sources t H p.input) k (let long = x.0.long in omega (arith, long, sources)) m)
        go (inr m) ih = written-right (gives p) (given ps) (VirtualLane v k) (ih m)

    -- what parts give stands in other registers
    pub given-leaves : (ws : Writes) → ((l : Lane) → is_lane_of v l ≡ false → is_written ws l ≡ false) → (ps : List SubregInput) → AllFit ps → (l : Lane) → is_written (given ps) l ≡ true → settled (through ws (settled (filled (given ps) l))) ≡ settled (filled (given ps) l)
    given-leaves ws free [] x l e = absurd (cc)
    given-leaves ws free (p ∷ ps) x l e = go (is_written (gives p) l) refl (given-leaves ws free ps x.1 l)
      where
        go : (y : Bool) → is_written (gives p) l ≡ y → (is_written (given ps) l ≡ true → settled (through ws (settled (filled (given ps) l))) ≡ settled (filled (given ps) l)) → settled (through ws (settled (filled (gives p ++ given ps) l))) ≡ settled (filled (gives p ++ given ps) l)
        go true q ih = subst (λ z. settled (through ws (settled z)) ≡ settled z) (sym (filled-left (gives p) (given ps) l q)) (source-leaves v ws free p.input.undef (operand_lanes t H p.input) x.0.other (settled (filled (gives p) l)) (moved-among false (lanes_by v (lanes_of t p.index)) (use_sources t H p.input) l q))
        go false q ih = subst (λ z. settled (through ws (settled z)) ≡ settled z) (sym (filled-right (gives p) (given ps) l q)) (ih (written-either (gives p) (given ps) l e q))

    -- the parts one after the other give what they give at once
    pub in-turn : (ps : List SubregInput) → AllFit ps → Apart (filled_lanes t ps) → (l : Lane) → traced (into ps) (FromLane l) ≡ settled (filled (given ps) l)
    in-turn [] x p l = refl
    in-turn (p ∷ ps) x apart l = go (is_written (given ps) l) refl (in-turn ps x.1 (apart-right (lanes_of t p.index) (filled_lanes t ps) apart) l)
      where
        beside : is_written (given ps) l ≡ true → is_written (gives p) l ≡ false
        beside w = none (is_written (gives p) l) refl
          where
            none : (y : Bool) → is_written (gives p) l ≡ y → is_written (gives p) l ≡ false
            none false q = q
            none true q =
                let one = moved-lane v (lanes_of t p.index) (use_sources t H p.input) l q in
                let two = given-lane ps l w in
                let same : two.0 ≡ one.0 = lane-number v two.0 one.0 (sym two.1 ∙ one.1) in
                absurd (apart-split (lanes_of t p.index) (filled_lanes t ps) apart two.0 two.2 (subst (λ k. Among k (lanes_of t p.index)) (sym same) one.2))

        alone : (y : Bool) → is_written (gives p) l ≡ y → is_written (given ps) l ≡ false → settled (filled (gives p) l) ≡ settled (filled (gives p ++ given ps) l)
        alone true q w = ap settled (sym (filled-left (gives p) (given ps) l q))
        alone false q w = ap settled (filled-free (gives p) l q ∙ sym (filled-right (gives p) (given ps) l q ∙ filled-free (given ps) l w))

        go : (y : Bool) → is_written (given ps) l ≡ y → traced (into ps) (FromLane l) ≡ settled (filled (given ps) l) → settled (through (gives p) (traced (into ps) (FromLane l))) ≡ settled (filled (gives p ++ given ps) l)
        go true w ih = ap (λ s. settled (through (gives p) s)) ih ∙ (given-leaves (gives p) (λ a q. moved-apart v (lanes_of t p.index) (use_sources t H p.input) a q) ps x.1 l w ∙ ap settled (sym (filled-right (gives p) (given ps) l (beside w))))
        go false w ih = ap (λ s. settled (through (gives p) s)) (ih ∙ ap settled (filled-free (given ps) l w)) ∙ alone (is_written (gives p) l) refl w

    -- behind writes of its other lanes they give the same
    pub upon : (base : Writes) → ((l : Lane) → is_lane_of v l ≡ false → is_written base l ≡ false) → (ps : List SubregInput) → AllFit ps → Apart (filled_lanes t ps) → (l : Lane) → traced (base ∷ into ps) (FromLane l) ≡ settled (filled (given ps ++ base) l)
    upon base own ps x apart l = ap (λ s. settled (through base s)) (in-turn ps x apart l) ∙ go (is_written (given ps) l) refl
      where
        go : (y : Bool) → is_written (given ps) l ≡ y → settled (through base (settled (filled (given ps) l))) ≡ settled (filled (given ps ++ base) l)
        go true w = given-leaves base own ps x l w ∙ ap settled (sym (filled-left (given ps) base l w))
        go false w = ap (λ q. settled (through base (settled q))) (filled-free (given ps) l w) ∙ ap settled (sym (filled-right (given ps) base l w))

    unwritten : (ps : List SubregInput) (l : Lane) → is_lane_of v l ≡ false → is_written (given ps) l ≡ false
    unwritten [] l e = refl
    unwritten (p ∷ ps) l e = written-append (gives p) (given ps) l (moved-apart v (lanes_of t p.index) (use_sources t H p.input) l e) (unwritten ps l e)

  -- parts give the same to lanes of two registers
  renamed : (v c : ℕ) (X Y : Writes) (k : ℕ) → filled X (VirtualLane c k) ≡ filled Y (VirtualLane v k) → (ps : List SubregInput) → filled (given c ps ++ X) (VirtualLane c k) ≡ filled (given v ps ++ Y) (VirtualLane v k)
  renamed v c X Y k e [] = e
  renamed v c X Y k e (p ∷ ps) =
      let ks = lanes_of t p.index in
      let ss = use_sources t H p.input in
      ap (λ ws. filled ws (VirtualLane c k)) (append_assoc (gives c p) (given c ps) X)
      ∙ (renamed-moves v c ks ss (given c ps ++ X) (given v ps ++ Y) k (renamed v c X Y k e ps)
      ∙ ap (λ ws. filled ws (VirtualLane v k)) (sym (append_assoc (gives v p) (given v ps) Y)))

  -- What puts together register v of parts: base is what it is given beside them, and starts what does that before them.
  module _ (v n : ℕ) (ps : List SubregInput) (base : ℕ → Writes) (starts : ℕ → List Writes) (low : ℕ) where
    abbrev range : List Lane
    range = lanes_by v (numbers 0 n)

    abbrev pub together : Writes
    together = given v ps ++ base v

    -- one after the other they do in register w what they do at once
    abbrev pub Works : ℕ → Type 0
    Works w = (l : Lane) → traced (starts w ++ into w ps) (FromLane l) ≡ settled (filled (given w ps ++ base w) l)

    pub in-own : Works v → GivesAlike low together (starts v ++ into v ps)
    in-own works = λ l o. works l

    pub in-other :
        (c : ℕ) → low ≤ c → Works c → ((l : Lane) → is_lane_of c l ≡ false → is_written (base c) l ≡ false) → ((k : ℕ) → k < n → filled (base c) (VirtualLane c k) ≡ filled (base v) (VirtualLane v k)) →
        ((l : Lane) → place range l ≡ None → is_written (base v) l ≡ false) → ((k : ℕ) → Among k (filled_lanes t ps) → Among k (numbers 0 n)) → GivesAlike low together ((starts c ++ into c ps) ++ (whole_copy v c n ∷ []))
    in-other c above works own same missed within = elsewhere low v c n together (starts c ++ into c ps) (λ k h. works (VirtualLane c k) ∙ ap settled (renamed v c (base c) (base v) k (same k h) ps)) leaves others
      where
        apart : (l : Lane) → is_old low l ≡ true → is_lane_of c l ≡ false
        apart l o = old-not-new low c l o above

        leaves : (l : Lane) → is_old low l ≡ true → traced (starts c ++ into c ps) (FromLane l) ≡ FromLane l
        leaves l o = works l ∙ ap settled (filled-free (given c ps ++ base c) l (written-append (given c ps) (base c) l (unwritten c ps l (apart l o)) (own l (apart l o))))

        others : (l : Lane) → is_old low l ≡ true → place range l ≡ None → settled (filled together l) ≡ FromLane l
        others l o e = ap settled (filled-free together l (written-append (given v ps) (base v) l (go (is_written (given v ps) l) refl) (missed l e)))
          where
            go : (y : Bool) → is_written (given v ps) l ≡ y → is_written (given v ps) l ≡ false
            go false w = w
            go true w = absurd (let z = given-lane v ps l w in let y = there-place range l (subst (λ a. Among a range) (sym z.1) (map-in (VirtualLane v) z.0 (numbers 0 n) (within z.0 z.2))) in let x : Some y.0 ≡ None = sym y.1 ∙ e in cc)

    -- all of it may be made Undef before
    pub undef-first : (wss : List Writes) → GivesAlike low together wss → AllFit v ps → ((l : Lane) → is_written (base v) l ≡ true → Leaves range (settled (filled (base v) l))) → ((l : Lane) → is_written (base v) l ≡ false → place range l ≡ None) → GivesAlike low together (undefined false range ∷ wss)
    undef-first wss same fit leaves covers = undef-before low range together wss same written none
      where
        written : (l : Lane) → is_written together l ≡ true → Leaves range (settled (filled together l))
        written l w = go (is_written (given v ps) l) refl
          where
            go : (y : Bool) → is_written (given v ps) l ≡ y → Leaves range (settled (filled together l))
            go true e = subst (λ z. Leaves range (settled z)) (sym (filled-left (given v ps) (base v) l e)) (given-leaves v (undefined false range) (λ a q. undefined-apart v (numbers 0 n) a q) ps fit l e)
            go false e = subst (λ z. Leaves range (settled z)) (sym (filled-right (given v ps) (base v) l e)) (leaves l (written-either (given v ps) (base v) l w e))

        none : (l : Lane) → is_written together l ≡ false → place range l ≡ None
        none l w = covers l (go (is_written (base v) l) refl)
          where
            go : (y : Bool) → is_written (base v) l ≡ y → is_written (base v) l ≡ false
            go false e = e
            go true e = absurd (let z = written-right (given v ps) (base v) l e in cc)
