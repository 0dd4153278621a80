-- What is written before a counted instruction whose ties are lowered, and what its operands read behind that.
use Rattle.std.proofs.Common.{◌≡◌, ◌∷◌, ◌++◌, ◌∙◌, ◌&&◌, ◌||◌, not, ℕ, Bool, true, false, cond, List, Option, Some, None, map, flat_map, length, refl, sym, ap, subst, append-nil, append_assoc, eqb-true, arith, []}
use Rattle.std.specs.Prelude.{filter_map, nat_eq, option_and_then}
use Rattle.target_base.specs.declared.types.Role.{Role}
use Rattle.target_base.proofs.Tests.{first_of_both}
use Rattle.meaning.specs.Lanes.{Writes, filled, settled, through}
use Rattle.meaning.specs.Live.{Among, here, there}
use Rattle.meaning.specs.Relations.{AlikeReads, Rel}
use Rattle.meaning.specs.declared.types.Fill.TheVariants.{Moved}
use Rattle.meaning.specs.declared.types.Lane.{Lane}
use Rattle.meaning.specs.declared.types.Lane.TheVariants.{SlotLane, UnitLane, VirtualLane}
use Rattle.meaning.specs.declared.types.Source.{Source}
use Rattle.meaning.specs.declared.types.Source.TheVariants.{FromLane, Undef}
use Rattle.laws.proofs.Core.{Plan}
use Rattle.mir_func.specs.declared.func.Loc.{Loc}
use Rattle.mir_func.specs.declared.func.Loc.TheVariants.{Fixed, Virtual}
use Rattle.mir_func.specs.declared.func.RegOp.{RegOp}
use Rattle.mir_func.specs.declared.func.Operand.{Operand}
use Rattle.mir_func.specs.declared.func.Operand.TheVariants as operands
use Rattle.mir_func.specs.Value.{Function}
use Rattle.mir_func.specs.Binding.{Bound, TiedPair, explicit_roles, is_definition, passes, register_at, roles_of, same_loc, tied_number, tied_pair, ties_to}
use Rattle.mir_meaning.specs.Registers.{located_lanes, numbers, operand_lanes, operand_widths, range_lanes, range_widths, use_sources}
use Rattle.mir_meaning.specs.Items.{copied, moved, undefined}
use Rattle.two_address.specs.Classes.{seated}
use Rattle.two_address.specs.Ties.{reads_besides, ties_in}
use Rattle.two_address.specs.declared.ties.Move.{Move}
use Rattle.two_address.specs.declared.ties.Tie.{Tie}
use Rattle.instr_effects.proofs.Members.{either-elim, flat-of, map-in, map-of, member-elim, member-none}
use Rattle.lowering_laws.proofs.Defined.{lanes-differ, named-once}
use Rattle.lowering_laws.proofs.Found.{moved-missed, place, place-there, there-place, register-found, register-missed, undefined-missed}
use Rattle.lowering_laws.proofs.Olds.{old_source}
use Rattle.lowering_laws.proofs.Replaced.{K, h}
use Rattle.lowering_laws.proofs.Unmoved.{loc-sym, map-length, none-of}
use Rattle.lowering_laws.proofs.Seated.{bound-operand, register-in, register-there}
use Rattle.lowering_laws.proofs.Silently.{lanes-apart, lanes-count, same-own}
use Rattle.lowering_laws.proofs.Steps.{Before}
use Rattle.lowering_laws.proofs.Tied.{copied-reads, gives-lanes, lane_numbers, lanes-numbered, numbers-distinct}
use Rattle.lowering_laws.proofs.Traced.{filled-free, is_lane_of, is_written, lanes_by, traced, traced-append, traced-undef}
use Rattle.lowering_laws.proofs.Tying.{Between, asides-differ, between}
use Rattle.lowering_laws.proofs.Counted.{CountedInstr, MoveIs, apart, aside-wide, d-at, d-def, d-there, from, known-lanes, lanes-own, move-is, new-missed, old-lane, old-missed, says, the-tie, u-bound, u-def, u-there, virtual, wide, into_new, into_own}

pub lane-once : (x y : ℕ) (l : Lane) → is_lane_of x l ≡ true → (x ≡ y → ⊥) → is_lane_of y l ≡ false
lane-once x y (UnitLane u) e far = absurd (cc)
lane-once x y (SlotLane s k w) e far = absurd (cc)
lane-once x y (VirtualLane v k) e far = go (nat_eq y v) refl
  where
    go : (z : Bool) → nat_eq y v ≡ z → nat_eq y v ≡ false
    go false g = g
    go true g = absurd (far (eqb-true x v e ∙ sym (eqb-true y v g)))

pub free-all : (wss : List Writes) (l : Lane) → ((ws : Writes) → Among ws wss → is_written ws l ≡ false) → traced wss (FromLane l) ≡ FromLane l
free-all [] l h = refl
free-all (ws ∷ wss) l h = ap (λ s. settled (through ws s)) (free-all wss l (λ vs m. h vs (there m))) ∙ ap settled (filled-free ws l (h ws here))

-- writes between others
traced-between : (U X : List Writes) (C : Writes) (Y : List Writes) (s : Source) → traced (U ++ (X ++ (C ∷ Y))) s ≡ traced (U ++ X) (settled (through C (traced Y s)))
traced-between U X C Y s = traced-append U (X ++ (C ∷ Y)) s ∙ (ap (traced U) (traced-append X (C ∷ Y) s) ∙ sym (traced-append U X (settled (through C (traced Y s)))))

flat-append : {A B : Type 0} (g : A → List B) (xs ys : List A) → flat_map g (xs ++ ys) ≡ flat_map g xs ++ flat_map g ys
flat-append g [] ys = refl
flat-append g (x ∷ xs) ys = ap (λ zs. g x ++ zs) (flat-append g xs ys) ∙ sym (append_assoc (g x) (flat_map g xs) (flat_map g ys))

-- an operand as a list of sources, each related to itself
self-reads : (R : Rel) (u : Bool) (ls : List Lane) → R Undef Undef → (u ≡ false → (l : Lane) → Among l ls → R (FromLane l) (FromLane l)) → AlikeReads R (map (cond u (λ l. Undef) FromLane) ls) (map (cond u (λ l. Undef) FromLane) ls)
self-reads R u [] z h = tt
self-reads R true (l ∷ ls) z h = (z, self-reads R true ls z (λ e. absurd (cc)))
self-reads R false (l ∷ ls) z h = (h refl l here, self-reads R false ls z (λ e x m. h e x (there m)))

pub ties-other : (r : Option Role) (n m : ℕ) → option_and_then tied_number r ≡ Some n → (m ≡ n → ⊥) → passes (ties_to m) r ≡ false
ties-other None n m e far = absurd (cc)
ties-other (Some q) n m e far = (λ k. passes (nat_eq m) (e k)) ∙ go (nat_eq m n) refl
  where
    go : (y : Bool) → nat_eq m n ≡ y → nat_eq m n ≡ false
    go false g = g
    go true g = absurd (far (eqb-true m n g))

module _ (site : CountedInstr) where
  open site use {t, f, i, r, c}

  abbrev H : Function
  H = h t f

  abbrev n : ℕ
  n = length f.classes

  abbrev P : Plan
  P = K t f

  abbrev os : List Operand
  os = i.operands

  abbrev rs : List Role
  rs = roles_of t i

  abbrev bs : List Bound
  bs = seated t i

  abbrev ps : List TiedPair
  ps = filter_map (tied_pair i.operands) (seated t i)

  abbrev T : List Tie
  T = ties_in t c i

  -- writes before and behind the instruction

  abbrev pub whole_writes : Loc → List Writes
  whole_writes (Virtual v) = undefined false (range_lanes t H v) ∷ []
  whole_writes (Fixed q) = []

  abbrev pub undef_writes : Operand → List Writes
  undef_writes (operands.Reg o) = cond (is_definition o && o.undef) (whole_writes o.loc) []
  undef_writes o = []

  abbrev pub move_writes : Move → Writes
  move_writes m = copied t H (operands.Reg m.to ∷ operands.Reg m.from ∷ [])

  abbrev pub copy_writes : Option Move → List Writes
  copy_writes None = []
  copy_writes (Some m) = move_writes m ∷ []

  abbrev undefs : List Writes
  undefs = flat_map undef_writes os

  abbrev pub befores : List Tie → List Writes
  befores ts = flat_map (λ (tie : Tie). copy_writes tie.before) ts

  abbrev pub afters : List Tie → List Writes
  afters ts = flat_map (λ (tie : Tie). copy_writes tie.after) ts

  abbrev pre_of : List Tie → List Writes
  pre_of ts = undefs ++ befores ts

  abbrev pre : List Writes
  pre = pre_of T

  abbrev post : List Writes
  post = afters T

  abbrev R : Rel
  R = Before P n pre

  data PreWrite (ts : List Tie) (ws : Writes) : Type 0 where
    whole : (d : RegOp) → Among (operands.Reg d) os → is_definition d ≡ true → d.undef ≡ true → (v : ℕ) → d.loc ≡ Virtual v → ws ≡ undefined false (range_lanes t H v) → PreWrite ts ws
    move : (tie : Tie) → Among tie ts → (m : Move) → tie.before ≡ Some m → ws ≡ move_writes m → PreWrite ts ws

  pre-write : (ts : List Tie) (ws : Writes) → Among ws (pre_of ts) → PreWrite ts ws
  pre-write ts ws m = either-elim ws undefs (befores ts) (λ k. let z = flat-of undef_writes ws os k in left z.0 z.1 z.2) (λ k. let z = flat-of (λ (tie : Tie). copy_writes tie.before) ws ts k in right z.0 z.1 z.0.before refl z.2) m
    where
      left : (o : Operand) → Among o os → Among ws (undef_writes o) → PreWrite ts ws
      left (operands.Reg d) a k = go (is_definition d) refl d.undef refl k
        where
          at : (l : Loc) → d.loc ≡ l → is_definition d ≡ true → d.undef ≡ true → Among ws (whole_writes l) → PreWrite ts ws
          at (Virtual v) q g u k = member-elim ws (undefined false (range_lanes t H v)) [] (λ z. whole d a g u v q z) (λ z. absurd (member-none ws z)) k
          at (Fixed x) q g u k = absurd (member-none ws k)

          go : (x : Bool) → is_definition d ≡ x → (y : Bool) → d.undef ≡ y → Among ws (cond (x && y) (whole_writes d.loc) []) → PreWrite ts ws
          go true g true u k = at d.loc refl g u k
          go true g false u k = absurd (member-none ws k)
          go false g y u k = absurd (member-none ws k)
      left (operands.Imm x) a k = absurd (member-none ws k)
      left (operands.Block x) a k = absurd (member-none ws k)
      left (operands.Stack x) a k = absurd (member-none ws k)
      left (operands.FixedStack x) a k = absurd (member-none ws k)
      left (operands.Symbol x) a k = absurd (member-none ws k)
      left (operands.Index x) a k = absurd (member-none ws k)
      left (operands.Mask x) a k = absurd (member-none ws k)

      right : (tie : Tie) → Among tie ts → (q : Option Move) → tie.before ≡ q → Among ws (copy_writes q) → PreWrite ts ws
      right tie a None g k = absurd (member-none ws k)
      right tie a (Some m) g k = member-elim ws (move_writes m) [] (λ z. move tie a m g z) (λ z. absurd (member-none ws z)) k

  -- a copy writes the lanes of what it goes into
  pub move-writes : (tie : Tie) (m : Move) → MoveIs site tie m → move_writes m ≡ moved false (operand_lanes t H m.to) (use_sources t H m.from)
  move-writes tie m (into_new x s z q) = subst (λ (y : Move). move_writes y ≡ moved false (operand_lanes t H y.to) (use_sources t H y.from)) (sym q) (append-nil (moved false (range_lanes t H x) (use_sources t H z.pair.tied_use)))
  move-writes tie m (into_own z q) = subst (λ (y : Move). move_writes y ≡ moved false (operand_lanes t H y.to) (use_sources t H y.from)) (sym q) (append-nil (moved false (operand_lanes t H z.pair.definition) (use_sources t H z.pair.tied_use)))

  -- what is done before leaves a lane alone
  pub record Untouched (ts : List Tie) (l : Lane) : Type 0 where
    pub wholes : (d : RegOp) → Among (operands.Reg d) os → is_definition d ≡ true → d.undef ≡ true → (v : ℕ) → d.loc ≡ Virtual v → place (range_lanes t H v) l ≡ None
    pub moves : (tie : Tie) → Among tie ts → (m : Move) → tie.before ≡ Some m → place (operand_lanes t H m.to) l ≡ None

  abbrev pub Within : List Tie → Type 0
  Within ts = (tie : Tie) → Among tie ts → Among tie T

  pub untouched : (ts : List Tie) → Within ts → (l : Lane) → Untouched ts l → traced (pre_of ts) (FromLane l) ≡ FromLane l
  untouched ts w l z = free-all (pre_of ts) l (λ ws k. by ws (pre-write ts ws k))
    where
      by : (ws : Writes) → PreWrite ts ws → is_written ws l ≡ false
      by ws (whole d m g u v at q) = ap (λ y. is_written y l) q ∙ undefined-missed false (range_lanes t H v) l (z.wholes d m g u v at)
      by ws (move tie a m g q) = ap (λ y. is_written y l) (q ∙ move-writes tie m (move-is site tie (w tie a) m g)) ∙ moved-missed false (operand_lanes t H m.to) (use_sources t H m.from) l (z.moves tie a m g)

  -- what an operand reads

  read-untouched :
      (ts : List Tie) → Within ts → (q : Option Role) (o : RegOp) → Among (q, operands.Reg o) bs → o.def ≡ false → o.undef ≡ false → ((tie : Tie) → Among tie ts → (m : Move) → tie.before ≡ Some m → passes (ties_to tie.number) q ≡ false) →
      (l : Lane) → Among l (operand_lanes t H o) → Untouched ts l
  read-untouched ts w q o m def plain far l k = record { wholes = wholes; moves = λ tie a y g. by tie a y g (move-is site tie (w tie a) y g) }
    where
      o-there : Among (operands.Reg o) os
      o-there = bound-operand (explicit_roles rs) os q (operands.Reg o) m

      wholes : (d : RegOp) → Among (operands.Reg d) os → is_definition d ≡ true → d.undef ≡ true → (v : ℕ) → d.loc ≡ Virtual v → place (range_lanes t H v) l ≡ None
      wholes d a g u v at = register-missed v (numbers 0 (length (range_widths t H v))) l (lanes-apart t H v o.loc o.index (subst (λ x. same_loc o.loc x ≡ false) at (go (same_loc o.loc d.loc) refl)) l k)
        where
          d-is : d.def ≡ true
          d-is = first_of_both d.def (not d.implicit) g

          go : (x : Bool) → same_loc o.loc d.loc ≡ x → same_loc o.loc d.loc ≡ false
          go false s = s
          go true s = absurd (let z = named-once t f i r.twelve d o (register-in d os a) d-is u (same-own d.loc) (register-in o os o-there) (λ y. def y || not (plain y)) s in let x : o.def ≡ d.def = ap (λ (p : RegOp). p.def) z in cc)

      by : (tie : Tie) → Among tie ts → (y : Move) → tie.before ≡ Some y → MoveIs site tie y → place (operand_lanes t H y.to) l ≡ None
      by tie a y g (into_new x s z eq) = subst (λ (p : Move). place (operand_lanes t H p.to) l ≡ None) (sym eq) (new-missed site x z.low l (old-lane site o o-there l k))
      by tie a y g (into_own z eq) = subst (λ (p : Move). place (operand_lanes t H p.to) l ≡ None) (sym eq) missed
        where
          d : RegOp
          d = z.pair.definition

          besides : passes (ties_to z.pair.number) q ≡ false
          besides = subst (λ x. passes (ties_to x) q ≡ false) z.number (far tie a y g)

          other : same_loc d.loc o.loc ≡ false
          other = (λ x. not (sym besides x) && not (sym def x) && not (sym plain x) && same_loc d.loc o.loc) ∙ none-of (reads_besides z.pair.number d.loc) (q, operands.Reg o) bs z.alone m

          missed : place (operand_lanes t H d) l ≡ None
          missed =
              let v = virtual site z.pair z.member z.virtual_use in
              (λ x. place (located_lanes t H (v.1 x) d.index) l)
              ∙ ((λ x. place (lanes-numbered t H v.0 d.index x) l)
              ∙ register-missed v.0 (lane_numbers t H v.0 d.index) l (lanes-apart t H v.0 o.loc o.index (subst (λ x. same_loc o.loc x ≡ false) v.1 (loc-sym d.loc o.loc ∙ other)) l k))

  -- sources are related to themselves
  pub undef-same : R Undef Undef
  undef-same = (refl, traced-undef pre)

  pub all-within : Within T
  all-within tie a = a

  pub own-reads : (q : Option Role) (o : RegOp) → Among (q, operands.Reg o) bs → o.def ≡ false → ((tie : Tie) → Among tie T → (m : Move) → tie.before ≡ Some m → passes (ties_to tie.number) q ≡ false) → AlikeReads R (use_sources t H o) (use_sources t H o)
  own-reads q o m def far = self-reads R o.undef (operand_lanes t H o) undef-same (λ plain l k. (old-lane site o (bound-operand (explicit_roles rs) os q (operands.Reg o) m) l k, untouched T all-within l (read-untouched T all-within q o m def plain far l k)))

  -- two definitions at different places share no lane
  pub definitions-differ : (x y : ℕ) (d o : RegOp) → register_at os x ≡ Some d → register_at os y ≡ Some o → d.def ≡ true → o.def ≡ true → (x ≡ y → ⊥) → (v : ℕ) → d.loc ≡ Virtual v → (l : Lane) (k : ℕ) → place (operand_lanes t H d) l ≡ Some k → place (operand_lanes t H o) l ≡ None
  definitions-differ x y d o p q def def' far v at l k e =
      let dm = register-there os x d p in
      let om = register-there os y o q in
      ap (λ ls. place ls l) (lanes-own site o om) ∙ lanes-differ t f i r.twelve x y d o p q def def' far (known-lanes site d dm) (known-lanes site o om) v at l k (ap (λ ls. place ls l) (sym (lanes-own site d dm)) ∙ e)

  -- copies before the instruction go into lanes that are apart
  copies-differ : (x y : Tie) → Among x T → Among y T → (y.number ≡ x.number → ⊥) → (m p : Move) → MoveIs site x m → MoveIs site y p → (l : Lane) (k : ℕ) → place (operand_lanes t H m.to) l ≡ Some k → place (operand_lanes t H p.to) l ≡ None
  copies-differ x y a g far m p (into_new v s z q) (into_new w u z' q') l k at =
      let own' : is_lane_of v l ≡ true = register-found v (numbers 0 (length (range_widths t H v))) l k (subst (λ (d : Move). place (operand_lanes t H d.to) l ≡ Some k) q at) in
      subst (λ (d : Move). place (operand_lanes t H d.to) l ≡ None) (sym q') (register-missed w (numbers 0 (length (range_widths t H w))) l (lane-once v w l own' (λ e. far (asides-differ bs c ps y.number x.number w (ap (λ (d : Tie). d.aside) (the-tie site y g) ∙ u) (ap (λ (d : Tie). d.aside) (the-tie site x a) ∙ (s ∙ ap Some e))))))
  copies-differ x y a g far m p (into_own z q) (into_new w u z' q') l k at =
      let d = z.pair.definition in
      subst (λ (d : Move). place (operand_lanes t H d.to) l ≡ None) (sym q') (new-missed site w z'.low l (old-lane site d (d-there site z.pair z.member) l (place-there (operand_lanes t H d) l k (subst (λ (d : Move). place (operand_lanes t H d.to) l ≡ Some k) q at)).0))
  copies-differ x y a g far m p (into_new v s z q) (into_own z' q') l k at =
      let own' : is_lane_of v l ≡ true = register-found v (numbers 0 (length (range_widths t H v))) l k (subst (λ (d : Move). place (operand_lanes t H d.to) l ≡ Some k) q at) in
      subst (λ (d : Move). place (operand_lanes t H d.to) l ≡ None) (sym q') (old-missed site z'.pair.definition (d-there site z'.pair z'.member) v z.low l own')
  copies-differ x y a g far m p (into_own z q) (into_own z' q') l k at =
      subst (λ (d : Move). place (operand_lanes t H d.to) l ≡ None) (sym q') (definitions-differ z.pair.number z'.pair.number z.pair.definition z'.pair.definition (d-at site z.pair z.member) (d-at site z'.pair z'.member) (d-def site z.pair z.member) (d-def site z'.pair z'.member) (λ e. far (z'.number ∙ (sym e ∙ sym z.number))) (virtual site z.pair z.member z.virtual_use).0 (virtual site z.pair z.member z.virtual_use).1 l k (subst (λ (d : Move). place (operand_lanes t H d.to) l ≡ Some k) q at))

  -- what a copy goes into is a virtual register, as wide as what is copied
  move-into : (tie : Tie) (m : Move) → MoveIs site tie m → (w : ℕ) × (m.to.loc ≡ Virtual w)
  move-into tie m (into_new x s z q) = (x, ap (λ (d : Move). d.to.loc) q)
  move-into tie m (into_own z q) = let v = virtual site z.pair z.member z.virtual_use in (v.0, ap (λ (d : Move). d.to.loc) q ∙ v.1)

  move-wide : (tie : Tie) (m : Move) → MoveIs site tie m → operand_widths t H m.to ≡ operand_widths t H m.from
  move-wide tie m (into_new x s z q) = subst (λ (d : Move). operand_widths t H d.to ≡ operand_widths t H d.from) (sym q) (aside-wide site z.pair z.member z.virtual_use x z.class ∙ wide site z.pair z.member z.virtual_use)
  move-wide tie m (into_own z q) = subst (λ (d : Move). operand_widths t H d.to ≡ operand_widths t H d.from) (sym q) (wide site z.pair z.member z.virtual_use)

  -- the use whose value it copies
  move-pair : (tie : Tie) (m : Move) → MoveIs site tie m → (p : TiedPair) × Among p ps × (tie.number ≡ p.number) × (p.tied_use.undef ≡ false) × (use_sources t H m.from ≡ use_sources t H p.tied_use)
  move-pair tie m (into_new x s z q) = (z.pair, z.member, z.number, z.plain, ap (λ (d : Move). use_sources t H d.from) q)
  move-pair tie m (into_own z q) = (z.pair, z.member, z.number, z.plain, ap (λ (d : Move). use_sources t H d.from) q)

  -- behind all copies a copy's register has what its use had before them
  pub copy-reads : (tie : Tie) → Among tie T → (m : Move) → tie.before ≡ Some m → MoveIs site tie m → AlikeReads R (use_sources t H m.from) (map FromLane (operand_lanes t H m.to))
  copy-reads tie a m g z =
      subst (λ ls. AlikeReads R ss (map FromLane ls)) (sym lanes)
      (copied-reads R (moved false (lanes_by w ks) ss) w ks ss (λ k s i q. related k s i q) (gives-lanes w ks ss (numbers-distinct t H w m.to.index) long))
    where
      into : (w : ℕ) × (m.to.loc ≡ Virtual w)
      into = move-into tie m z

      w : ℕ
      w = into.0

      ks : List ℕ
      ks = lane_numbers t H w m.to.index

      ss : List Source
      ss = use_sources t H m.from

      lanes : operand_lanes t H m.to ≡ lanes_by w ks
      lanes = (λ k. located_lanes t H (into.1 k) m.to.index) ∙ lanes-numbered t H w m.to.index

      long : length ks ≡ length ss
      long =
          let one = map-length (VirtualLane w) ks in
          let two = ap length lanes in
          let three = lanes-count t H m.to.loc m.to.index in
          let four = lanes-count t H m.from.loc m.from.index in
          let five = ap length (move-wide tie m z) in
          let six = map-length (cond m.from.undef (λ (l : Lane). Undef) FromLane) (operand_lanes t H m.from) in
          omega (arith, one, two, three, four, five, six)

      middle : Between T tie
      middle = between T tie (apart site) a

      own-writes : move_writes m ≡ moved false (lanes_by w ks) ss
      own-writes = move-writes tie m z ∙ ap (λ ls. moved false ls ss) lanes

      parts : pre ≡ undefs ++ (befores middle.front ++ (move_writes m ∷ befores middle.back))
      parts =
          ap (λ ts. undefs ++ befores ts) middle.are
          ∙ ap (λ x. undefs ++ x) (flat-append (λ (x : Tie). copy_writes x.before) middle.front (tie ∷ middle.back) ∙ (λ k. befores middle.front ++ (copy_writes (g k) ++ befores middle.back)))

      related : (k : ℕ) (s : Source) → Among k ks → Among s ss → filled (moved false (lanes_by w ks) ss) (VirtualLane w k) ≡ Moved s → R s (FromLane (VirtualLane w k))
      related k s here' i q =
          let l = VirtualLane w k in
          let y = left s i in (
            y.0,
            (λ x. traced (parts x) (FromLane l))
                ∙ (traced-between undefs (befores middle.front) (move_writes m) (befores middle.back) (FromLane l)
                ∙ (ap (λ x. traced (pre_of middle.front) (settled (through (move_writes m) x))) (behind k here')
                ∙ (ap (λ ws. traced (pre_of middle.front) (settled (filled ws l))) own-writes
                ∙ (ap (λ x. traced (pre_of middle.front) (settled x)) q ∙ y.1)))),
          )
        where
          front-within : Within middle.front
          front-within d k = (middle.before d k).0

          -- the copies behind it leave its lanes
          behind : (k : ℕ) → Among k ks → traced (befores middle.back) (FromLane (VirtualLane w k)) ≡ FromLane (VirtualLane w k)
          behind k here' = free-all (befores middle.back) (VirtualLane w k) (λ ws x. let y = flat-of (λ (d : Tie). copy_writes d.before) ws middle.back x in at ws y.0 y.1 y.0.before refl y.2)
            where
              found : (n : ℕ) × (place (operand_lanes t H m.to) (VirtualLane w k) ≡ Some n)
              found = let y = there-place (lanes_by w ks) (VirtualLane w k) (map-in (VirtualLane w) k ks here') in (y.0, ap (λ ls. place ls (VirtualLane w k)) lanes ∙ y.1)

              at : (ws : Writes) (x : Tie) → Among x middle.back → (q : Option Move) → x.before ≡ q → Among ws (copy_writes q) → is_written ws (VirtualLane w k) ≡ false
              at ws x j None e y = absurd (member-none ws y)
              at ws x j (Some p) e y =
                  let there' = middle.behind x j in
                  let is = move-is site x there'.0 p e in
                  member-elim ws (move_writes p) [] (λ d. ap (λ vs. is_written vs (VirtualLane w k)) (d ∙ move-writes x p is) ∙ moved-missed false (operand_lanes t H p.to) (use_sources t H p.from) (VirtualLane w k) (copies-differ tie x a there'.0 there'.1 m p z is (VirtualLane w k) found.0 found.1)) (λ d. absurd (member-none ws d)) y

          -- those before it leave what it copies
          left : (s : Source) → Among s ss → (old_source n s ≡ true) × (traced (pre_of middle.front) s ≡ s)
          left s i =
              let y = move-pair tie m z in
              let u = y.0.tied_use in
              let i' : Among s (map FromLane (operand_lanes t H u)) = subst (λ (d : Bool). Among s (map (cond d (λ (l : Lane). Undef) FromLane) (operand_lanes t H u))) y.3 (subst (Among s) y.4 i) in
              let x = map-of FromLane s (operand_lanes t H u) i' in
              let lane : (old_source n (FromLane x.0) ≡ true) × (traced (pre_of middle.front) (FromLane x.0) ≡ FromLane x.0) = (
                old-lane site u (u-there site y.0 y.1) x.0 x.1,
                untouched middle.front front-within x.0 (read-untouched middle.front front-within (from site y.0 y.1).0.0 u (u-bound site y.0 y.1) (u-def site y.0 y.1) y.3 (λ d k p g. ties-other (from site y.0 y.1).0.0 y.0.number d.number (says site y.0 y.1).1 (λ e. (middle.before d k).1 (e ∙ sym y.2))) x.0 x.1),
              ) in
              subst (λ q. (old_source n q ≡ true) × (traced (pre_of middle.front) q ≡ q)) (sym x.2) lane
