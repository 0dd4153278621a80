-- What is written behind a counted instruction whose ties are lowered: where the lanes that it defines come from.
use Rattle.std.proofs.Common.{◌≡◌, ◌⊎◌, inl, inr, ◌∷◌, ◌++◌, ◌∙◌, ◌+◌, not, ℕ, Bool, true, false, List, Option, Some, None, map, length, refl, sym, ap, subst, append-nil, eqb-true, eq-eqb, arith, []}
use Rattle.std.specs.Prelude.{filter_map, nat_eq}
use Rattle.target_base.specs.declared.types.Role.{Role}
use Rattle.target_base.proofs.Tests.{first_of_both}
use Rattle.meaning.specs.Lanes.{Writes, settled, through}
use Rattle.meaning.specs.Live.{Among, here, there}
use Rattle.meaning.specs.declared.types.Lane.{Lane}
use Rattle.meaning.specs.declared.types.Lane.TheVariants.{VirtualLane}
use Rattle.meaning.specs.declared.types.Source.{Source}
use Rattle.meaning.specs.declared.types.Source.TheVariants.{FromLane}
use Rattle.mir_func.specs.declared.func.Loc.TheVariants.{Virtual}
use Rattle.mir_func.specs.declared.func.RegOp.{RegOp}
use Rattle.mir_func.specs.declared.func.Operand.{Operand}
use Rattle.mir_func.specs.Value.{Function}
use Rattle.mir_func.specs.Binding.{Bound, TiedPair, is_definition, register_at, roles_of, tied_pair}
use Rattle.mir_meaning.specs.Registers.{numbers, operand_lanes, operand_widths, range_lanes, range_widths}
use Rattle.mir_meaning.specs.Items.{moved}
use Rattle.two_address.specs.Classes.{seated}
use Rattle.two_address.specs.Ties.{defined_aside, tie_to, ties_in, untied}
use Rattle.two_address.specs.declared.ties.Tie.{Tie}
use Rattle.instr_effects.proofs.Members.{member-elim, member-none}
use Rattle.lowering_laws.proofs.Found.{copied-found, moved-missed, numbered-found, place, place-there, register-missed}
use Rattle.lowering_laws.proofs.Olds.{is_old}
use Rattle.lowering_laws.proofs.Replaced.{h}
use Rattle.lowering_laws.proofs.Seated.{register-there}
use Rattle.lowering_laws.proofs.Silently.{lanes-count}
use Rattle.lowering_laws.proofs.Traced.{filled-free, is_lane_of, traced}
use Rattle.lowering_laws.proofs.Tying.{IsTie, Kind, aside, asides-differ, blank, copied as copied_kind, fixed, found-or, is_read, own}
use Rattle.live_laws.proofs.Effects.Moving.{some-same}
use Rattle.lowering_laws.proofs.Counted.{CountedInstr, IsAside, aside-is, aside-wide, d-at, d-def, d-there, new-missed, old-missed, the-tie, tie-is, virtual}
use Rattle.lowering_laws.proofs.CopiesBefore.{Within, afters, all-within, copy_writes, definitions-differ, lane-once}

module _ (site : CountedInstr) where
  open site use {t, f, i, c}

  abbrev H : Function
  H = h t f

  abbrev n : ℕ
  n = length f.classes

  abbrev os : List Operand
  os = i.operands

  abbrev rs : List Role
  rs = roles_of t i

  abbrev bs : List Bound
  bs = seated t i

  abbrev ps : List TiedPair
  ps = filter_map (tied_pair i.operands) (seated t i)

  abbrev T : List Tie
  T = ties_in t c i

  abbrev post : List Writes
  post = afters site T

  -- copies behind the instruction

  -- the lane from which an old lane comes
  pub data Comes (a a' : Lane) : Type 0 where
    stays : is_old n a ≡ true → a' ≡ a → ((m x : ℕ) (d : RegOp) → register_at os m ≡ Some d → (tie_to m T).aside ≡ Some x → place (operand_lanes t H d) a ≡ None) → Comes a a'
    comes : (m x k : ℕ) (d : RegOp) → register_at os m ≡ Some d → (tie_to m T).aside ≡ Some x → a' ≡ VirtualLane x k → place (operand_lanes t H d) a ≡ Some k → Comes a a'

  data CameFrom (ts : List Tie) (a a' : Lane) : Type 0 where
    stayed : a' ≡ a → ((tie : Tie) → Among tie ts → (x : ℕ) → tie.aside ≡ Some x → (d : RegOp) → register_at os tie.number ≡ Some d → place (operand_lanes t H d) a ≡ None) → CameFrom ts a a'
    came : (tie : Tie) → Among tie ts → (x k : ℕ) (d : RegOp) → tie.aside ≡ Some x → register_at os tie.number ≡ Some d → a' ≡ VirtualLane x k → place (operand_lanes t H d) a ≡ Some k → CameFrom ts a a'

  -- the definition of a tie's number
  pub tie-at : (tie : Tie) (x : ℕ) (z : IsAside site tie x) (d : RegOp) → register_at os tie.number ≡ Some d → z.pair.definition ≡ d
  tie-at tie x z d e = some-same z.pair.definition d (sym (d-at site z.pair z.member) ∙ (ap (register_at os) (sym z.number) ∙ e))

  no-after : (tie : Tie) → Among tie T → tie.aside ≡ None → tie.after ≡ None
  no-after tie m g = by (tie-is site tie m) (tie-is site tie m).kind
    where
      by : (z : IsTie bs H rs n ps tie) → Kind z.new z.pair (is_read bs z.pair) tie → tie.after ≡ None
      by z (fixed k q) = ap (λ (y : Tie). y.after) q
      by z (blank k u q) = ap (λ (y : Tie). y.after) q
      by z (own k u l w q) = ap (λ (y : Tie). y.after) q
      by z (copied_kind k u w q) = ap (λ (y : Tie). y.after) q
      by z (aside k u q) = absurd (let y : Some z.new ≡ None = ap (λ (y : Tie). y.aside) (sym q) ∙ g in cc)

  abbrev Traces : List Tie → Lane → Type 0
  Traces ts a = (a' : Lane) × (traced (afters site ts) (FromLane a) ≡ FromLane a') × CameFrom ts a a'

  module _ (tie : Tie) (own-tie : Among tie T) (ts : List Tie) (w : Within site ts) (a : Lane) where
    -- nothing is copied behind for this tie
    bare : tie.aside ≡ None → Traces ts a → Traces (tie ∷ ts) a
    bare g ih = (ih.0, (λ k. traced (copy_writes site (no-after tie own-tie g k) ++ afters site ts) (FromLane a)) ∙ ih.1, more ih.2)
      where
        more : {a' : Lane} → CameFrom ts a a' → CameFrom (tie ∷ ts) a a'
        more (stayed q without) = stayed q (λ x m. member-elim x tie ts (λ i y s d k. absurd (let v : None ≡ Some y = sym g ∙ (ap (λ (q : Tie). q.aside) (sym i) ∙ s) in cc)) (λ i. without x i) m)
        more (came x m y k d s q p v) = came x (there m) y k d s q p v

    module _ (x : ℕ) (g : tie.aside ≡ Some x) where
      pair-aside : IsAside site tie x
      pair-aside = aside-is site tie own-tie x g

      abbrev d : RegOp
      d = pair-aside.pair.definition

      long : length (operand_lanes t H d) ≡ length (range_widths t H x)
      long = lanes-count t H d.loc d.index ∙ ap length (sym (aside-wide site pair-aside.pair pair-aside.member pair-aside.virtual_use x pair-aside.class))

      abbrev copy : Writes
      copy = moved false (operand_lanes t H d) (map FromLane (range_lanes t H x))

      after : copy_writes site tie.after ≡ copy ∷ []
      after = ap (λ (y : Tie). copy_writes site y.after) pair-aside.is ∙ ap (λ (ws : Writes). ws ∷ []) (append-nil copy)

      then : (s : Source) → traced (copy_writes site tie.after ++ afters site ts) s ≡ settled (through copy (traced (afters site ts) s))
      then s = λ k. traced (after k ++ afters site ts) s

      abbrev NoneLater : Type 0
      NoneLater = (y : Tie) → Among y ts → (v : ℕ) → y.aside ≡ Some v → (p : RegOp) → register_at os y.number ≡ Some p → place (operand_lanes t H p) a ≡ None

      at-place : (q : Option ℕ) → place (operand_lanes t H d) a ≡ q → traced (afters site ts) (FromLane a) ≡ FromLane a → NoneLater → Traces (tie ∷ ts) a
      at-place None without e later = (
        a,
        then (FromLane a) ∙ (ap (λ s. settled (through copy s)) e ∙ ap settled (filled-free copy a (moved-missed false (operand_lanes t H d) (map FromLane (range_lanes t H x)) a without))),
        stayed refl (λ y m. member-elim y tie ts (λ i v s p k. let same = tie-at tie x pair-aside p (ap (λ (q : Tie). register_at os q.number) (sym i) ∙ k) in subst (λ q. place (operand_lanes t H q) a ≡ None) same without) (λ i. later y i) m),
      )
      at-place (Some k) stood-at e later =
          let below = (place-there (operand_lanes t H d) a k stood-at).1 in
          let l = long in
          let zero : 0 + k ≡ k = omega arith in (
            VirtualLane x k,
            then (FromLane a) ∙ (ap (λ s. settled (through copy s)) e ∙ (ap settled (copied-found (operand_lanes t H d) x 0 (length (range_widths t H x)) a k stood-at (omega arith)) ∙ (λ i. FromLane (VirtualLane x (zero i))))),
            came tie here x k d g (ap (register_at os) pair-aside.number ∙ d-at site pair-aside.pair pair-aside.member) refl stood-at,
          )

      by-rest : (a' : Lane) → traced (afters site ts) (FromLane a) ≡ FromLane a' → CameFrom ts a a' → Traces (tie ∷ ts) a
      by-rest a' e (stayed q later) = at-place (place (operand_lanes t H d) a) refl (e ∙ ap FromLane q) later
      by-rest a' e (came y m v k p s q is stood-at) =
          let other = aside-is site y (w y m) v s in (
            a',
            then (FromLane a) ∙ (ap (λ s. settled (through copy s)) e ∙ ap settled (filled-free copy a' (moved-missed false (operand_lanes t H d) (map FromLane (range_lanes t H x)) a' (old-missed site d (d-there site pair-aside.pair pair-aside.member) v other.low a' (ap (is_lane_of v) is ∙ eq-eqb v v refl))))),
            came y (there m) v k p s q is stood-at,
          )

      stood : Traces ts a → Traces (tie ∷ ts) a
      stood ih = by-rest ih.0 ih.1 ih.2

  traces : (ts : List Tie) → Within site ts → (a : Lane) → Traces ts a
  traces [] w a = (a, refl, stayed refl (λ tie m. absurd (member-none tie m)))
  traces (tie ∷ ts) w a = go tie.aside refl (traces ts (λ x m. w x (there m)) a)
    where
      go : (q : Option ℕ) → tie.aside ≡ q → Traces ts a → Traces (tie ∷ ts) a
      go None g ih = bare tie (w tie here) ts (λ x m. w x (there m)) a g ih
      go (Some x) g ih = stood tie (w tie here) ts (λ x m. w x (there m)) a x g ih

  -- where an old lane comes from
  pub comes-from : (a : Lane) → is_old n a ≡ true → (a' : Lane) × (traced post (FromLane a) ≡ FromLane a') × Comes a a'
  comes-from a o = let z = traces T (all-within site) a in (z.0, z.1, by z.2)
    where
      by : {a' : Lane} → CameFrom T a a' → Comes a a'
      by (stayed q without) = stays o q (λ m x d e g. at m x d e g (found-or m T))
        where
          at : (m x : ℕ) (d : RegOp) → register_at os m ≡ Some d → (tie_to m T).aside ≡ Some x → (tie_to m T ≡ untied m) ⊎ ((tie : Tie) × Among tie T × (tie.number ≡ m) × (tie_to m T ≡ tie)) → place (operand_lanes t H d) a ≡ None
          at m x d e g (inl q) = absurd (let y : None ≡ Some x = ap (λ (k : Tie). k.aside) (sym q) ∙ g in cc)
          at m x d e g (inr q) = without q.0 q.1 x (ap (λ (k : Tie). k.aside) (sym q.3) ∙ g) d (ap (register_at os) q.2 ∙ e)
      by (came tie m x k d s q is h) = comes tie.number x k d q (ap (λ (y : Tie). y.aside) (the-tie site tie m) ∙ s) is h

  -- the tie of a number for which a register stands in
  pub aside-at : (m x : ℕ) → (tie_to m T).aside ≡ Some x → (z : Tie) × Among z T × IsAside site z x × (z.number ≡ m)
  aside-at m x g = by (found-or m T)
    where
      by : (tie_to m T ≡ untied m) ⊎ ((tie : Tie) × Among tie T × (tie.number ≡ m) × (tie_to m T ≡ tie)) → (z : Tie) × Among z T × IsAside site z x × (z.number ≡ m)
      by (inl q) = absurd (let y : None ≡ Some x = ap (λ (k : Tie). k.aside) (sym q) ∙ g in cc)
      by (inr q) = (q.0, q.1, aside-is site q.0 q.1 x (ap (λ (k : Tie). k.aside) (sym q.3) ∙ g), q.2)

  loc-at : (tie : Tie) (x : ℕ) (z : IsAside site tie x) (d : RegOp) → register_at os tie.number ≡ Some d → (v : ℕ) × (d.loc ≡ Virtual v)
  loc-at tie x z d e = let v = virtual site z.pair z.member z.virtual_use in (v.0, ap (λ (y : RegOp). y.loc) (sym (tie-at tie x z d e)) ∙ v.1)

  -- definitions in their places

  pub definition-lanes : (m : ℕ) (o : RegOp) → register_at os m ≡ Some o → is_definition o ≡ true → (q : Option ℕ) → (tie_to m T).aside ≡ q → (a a' : Lane) → Comes a a' → place (operand_lanes t H o) a ≡ place (operand_lanes t H (defined_aside q o)) a'
  definition-lanes m o at is None g a a' (stays old s without) = ap (place (operand_lanes t H o)) (sym s)
  definition-lanes m o at is None g a a' (comes k x p d e u s stood-at) =
      let o-there = register-there os m o at in
      let tie = aside-at k x u in
      definitions-differ site k m d o e at (ap (λ (y : RegOp). y.def) (sym (tie-at tie.0 x tie.2 d (ap (register_at os) tie.3 ∙ e))) ∙ d-def site tie.2.pair tie.2.member) (first_of_both o.def (not o.implicit) is) (λ w. absurd (let y : Some x ≡ None = sym u ∙ (ap (λ n. (tie_to n T).aside) w ∙ g) in cc)) (loc-at tie.0 x tie.2 d (ap (register_at os) tie.3 ∙ e)).0 (loc-at tie.0 x tie.2 d (ap (register_at os) tie.3 ∙ e)).1 a p stood-at
      ∙ sym (old-missed site o o-there x tie.2.low a' (ap (is_lane_of x) s ∙ eq-eqb x x refl))
  definition-lanes m o at is (Some y) g a a' (stays old s without) =
      let tie = aside-at m y g in
      without m y o at g ∙ sym (ap (place (range_lanes t H y)) s ∙ new-missed site y tie.2.low a old)
  definition-lanes m o at is (Some y) g a a' (comes k x p d e u s stood-at) = by (nat_eq k m) refl
    where
      tie : (z : Tie) × Among z T × IsAside site z x × (z.number ≡ k)
      tie = aside-at k x u

      mine : register_at os tie.0.number ≡ Some d
      mine = ap (register_at os) tie.3 ∙ e

      by : (q : Bool) → nat_eq k m ≡ q → place (operand_lanes t H o) a ≡ place (range_lanes t H y) a'
      by true q =
          let n-same : k ≡ m = eqb-true k m q in
          let d-same : d ≡ o = some-same d o (sym e ∙ (ap (register_at os) n-same ∙ at)) in
          let x-same : x ≡ y = some-same x y (sym u ∙ (ap (λ n. (tie_to n T).aside) n-same ∙ g)) in
          let below = (place-there (operand_lanes t H d) a p stood-at).1 in
          let long = lanes-count t H d.loc d.index in
          let same = tie-at tie.0 x tie.2 d mine in
          let wide' : length (range_widths t H x) ≡ length (operand_widths t H d) = ap length (aside-wide site tie.2.pair tie.2.member tie.2.virtual_use x tie.2.class) ∙ ap (λ (z : RegOp). length (operand_widths t H z)) same in
          let zero : 0 + p ≡ p = omega arith in
          ap (λ (z : RegOp). place (operand_lanes t H z) a) (sym d-same)
          ∙ (stood-at ∙ sym ((λ i. place (range_lanes t H (sym x-same i)) (s i)) ∙ ((λ i. place (range_lanes t H x) (VirtualLane x (sym zero i))) ∙ numbered-found x 0 (length (range_widths t H x)) p (omega arith))))
      by false q =
          let far : k ≡ m → ⊥ = λ w. let z = eq-eqb k m w in cc in
          let l = loc-at tie.0 x tie.2 d mine in
          definitions-differ site k m d o e at (ap (λ (z : RegOp). z.def) (sym (tie-at tie.0 x tie.2 d mine)) ∙ d-def site tie.2.pair tie.2.member) (first_of_both o.def (not o.implicit) is) far l.0 l.1 a p stood-at
          ∙ sym (ap (place (range_lanes t H y)) s ∙ register-missed y (numbers 0 (length (range_widths t H y))) (VirtualLane x p) (lane-once x y (VirtualLane x p) (eq-eqb x x refl) (λ w. far (asides-differ bs c ps k m y (u ∙ ap Some w) g))))
