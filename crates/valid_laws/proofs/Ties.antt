-- Tied operands in physical form are one register, and flags are those of the opcode.
use Rattle.std.proofs.Common.{◌≡◌, ◌∷◌, ◌∙◌, ◌&&◌, ◌||◌, not, ℕ, zero, suc, true, List, [], Option, Some, None, map, refl, sym, ap, eq-eqb}
use Rattle.std.specs.Prelude.{filter_map, is_none, option_and_then, option_map}
use Rattle.std.specs.List.{cons_option, list_all}
use Rattle.target_base.specs.declared.types.IndexId.{IndexId}
use Rattle.target_base.specs.declared.types.Reg.{Reg}
use Rattle.target_base.specs.declared.types.Target.{Target}
use Rattle.target_base.proofs.Tests.{first_of_both, second_of_both}
use Rattle.mir_func.specs.declared.func.Loc.{Loc}
use Rattle.mir_func.specs.declared.func.Loc.TheVariants.{Fixed, Virtual}
use Rattle.mir_func.specs.declared.func.RegOp.{RegOp}
use Rattle.mir_func.specs.declared.func.Operand.{Operand}
use Rattle.mir_func.specs.declared.func.Operand.TheVariants as operands
use Rattle.mir_func.specs.declared.func.Instr.{Instr}
use Rattle.mir_func.specs.Value.{Function}
use Rattle.mir_func.specs.Binding.{Bound, TiedPair, bound, is_early, paired_with, passes, register_at, same_index, same_loc, tied_number, tied_pair, tied_pairs, ties_to}
use Rattle.mir_meaning.specs.declared.Form.TheVariants as forms
use Rattle.mir_meaning.specs.Rules.{V11, flags_fit, tie_fits}
use Rattle.live_laws.proofs.Effects.Lists.{all-of}
use Rattle.lowering_laws.specs.Form.{shares_register}
use Rattle.lowering_laws.proofs.Tied.{one-index, one-loc}
use Rattle.join_laws.proofs.Rules.{all-more}
use Rattle.rewriter.specs.Physical.{Assignment, in_register, part_of, physical_at, physical_form, physical_instr, register_of}
use Rattle.rewrite_laws.specs.Laws.{IsClear}
use Rattle.valid_laws.specs.Rules.{PhysicalTies}
use Rattle.valid_laws.proofs.Classes.{each-made}
use Rattle.valid_laws.proofs.Fitting.{AreNamed, implicit-fixed}
use Rattle.valid_laws.proofs.Moved.{bound-same, move-bound, moved, moves}

own-loc : (l : Loc) → same_loc l l ≡ true
own-loc (Virtual v) = eq-eqb v v refl
own-loc (Fixed r) = eq-eqb r.0 r.0 refl

own-index : (x : Option IndexId) → same_index x x ≡ true
own-index None = refl
own-index (Some x) = eq-eqb x.0 x.0 refl

module _ (t : Target) (rs : Assignment) where
  abbrev r : RegOp → RegOp
  r = moved t rs

  -- where a register with an index stands

  abbrev loc_in : Loc → Option Reg → Loc
  loc_in l None = l
  loc_in l (Some q) = Fixed q

  abbrev index_in : Option IndexId → Option Reg → Option IndexId
  index_in x None = x
  index_in x (Some q) = None

  abbrev loc_of : Loc → Option IndexId → Loc
  loc_of (Virtual v) x = loc_in (Virtual v) (part_of t (register_of rs v) x)
  loc_of (Fixed q) x = Fixed q

  abbrev index_of : Loc → Option IndexId → Option IndexId
  index_of (Virtual v) x = index_in x (part_of t (register_of rs v) x)
  index_of (Fixed q) x = x

  loc-is : (o : RegOp) → (r o).loc ≡ loc_of o.loc o.index
  loc-is o = go o.loc refl
    where
      by : (l : Loc) (q : Option Reg) → o.loc ≡ l → (in_register o q).loc ≡ loc_in l q
      by l None e = e
      by l (Some q) e = refl

      go : (l : Loc) → o.loc ≡ l → (physical_at t rs o l).loc ≡ loc_of l o.index
      go (Virtual v) e = by (Virtual v) (part_of t (register_of rs v) o.index) e
      go (Fixed q) e = e

  index-is : (o : RegOp) → (r o).index ≡ index_of o.loc o.index
  index-is o = go o.loc
    where
      by : (q : Option Reg) → (in_register o q).index ≡ index_in o.index q
      by None = refl
      by (Some q) = refl

      go : (l : Loc) → (physical_at t rs o l).index ≡ index_of l o.index
      go (Virtual v) = by (part_of t (register_of rs v) o.index)
      go (Fixed q) = refl

  tied-one : (f : Function) (d u : RegOp) → (same_loc d.loc u.loc && same_index d.index u.index) ≡ true → tie_fits t forms.Allocated f (r d) (r u) ≡ true
  tied-one f d u e =
      let l : d.loc ≡ u.loc = one-loc d.loc u.loc (first_of_both (same_loc d.loc u.loc) (same_index d.index u.index) e) in
      let x : d.index ≡ u.index = one-index d.index u.index (second_of_both (same_loc d.loc u.loc) (same_index d.index u.index) e) in
      let loc : (r d).loc ≡ (r u).loc = loc-is d ∙ ((λ k. loc_of (l k) (x k)) ∙ sym (loc-is u)) in
      let index : (r d).index ≡ (r u).index = index-is d ∙ ((λ k. index_of (l k) (x k)) ∙ sym (index-is u)) in
      λ k. (ap (λ a. same_loc a (r u).loc) loc ∙ own-loc (r u).loc) k && (ap (λ a. same_index a (r u).index) index ∙ own-index (r u).index) k

  -- pairs in physical form

  abbrev moved-pair : TiedPair → TiedPair
  moved-pair p = record { number = p.number; definition = r p.definition; tied_use = r p.tied_use }

  pub register-moved : (os : List Operand) (n : ℕ) → register_at (moves t rs os) n ≡ option_map r (register_at os n)
  register-moved [] zero = refl
  register-moved [] (suc n) = refl
  register-moved (operands.Reg o ∷ os) zero = refl
  register-moved (operands.Imm z ∷ os) zero = refl
  register-moved (operands.Block z ∷ os) zero = refl
  register-moved (operands.Stack z ∷ os) zero = refl
  register-moved (operands.FixedStack z ∷ os) zero = refl
  register-moved (operands.Symbol z ∷ os) zero = refl
  register-moved (operands.Index z ∷ os) zero = refl
  register-moved (operands.Mask z ∷ os) zero = refl
  register-moved (o ∷ os) (suc n) = register-moved os n

  paired-moved : (os : List Operand) (u : RegOp) (n : Option ℕ) → paired_with (moves t rs os) (r u) n ≡ option_map moved-pair (paired_with os u n)
  paired-moved os u None = refl
  paired-moved os u (Some n) = ap (option_map (λ d. record { number = n; definition = d; tied_use = r u })) (register-moved os n) ∙ at (register_at os n)
    where
      at : (q : Option RegOp) → option_map (λ (d : RegOp). record { number = n; definition = d; tied_use = r u }) (option_map r q) ≡ option_map moved-pair (option_map (λ (d : RegOp). record { number = n; definition = d; tied_use = u }) q)
      at None = refl
      at (Some d) = refl

  pair-moved : (os : List Operand) (b : Bound) → tied_pair (moves t rs os) (move-bound t rs b) ≡ option_map moved-pair (tied_pair os b)
  pair-moved os (q, operands.Reg u) = paired-moved os u (option_and_then tied_number q)
  pair-moved os (q, operands.Imm z) = refl
  pair-moved os (q, operands.Block z) = refl
  pair-moved os (q, operands.Stack z) = refl
  pair-moved os (q, operands.FixedStack z) = refl
  pair-moved os (q, operands.Symbol z) = refl
  pair-moved os (q, operands.Index z) = refl
  pair-moved os (q, operands.Mask z) = refl

  pairs-moved : (os : List Operand) (bs : List Bound) → filter_map (tied_pair (moves t rs os)) (map (move-bound t rs) bs) ≡ map moved-pair (filter_map (tied_pair os) bs)
  pairs-moved os [] = refl
  pairs-moved os (b ∷ bs) = (λ k. cons_option (pair-moved os b k) (pairs-moved os bs k)) ∙ at (tied_pair os b)
    where
      at : (q : Option TiedPair) → cons_option (option_map moved-pair q) (map moved-pair (filter_map (tied_pair os) bs)) ≡ map moved-pair (cons_option q (filter_map (tied_pair os) bs))
      at None = refl
      at (Some p) = refl

  -- flags

  flag : (b : Bound) → flags_fit b ≡ true → flags_fit (move-bound t rs b) ≡ true
  flag (q, operands.Reg o) h = go o.loc
    where
      by : (p : Option Reg) → flags_fit (q, operands.Reg (in_register o p)) ≡ true
      by None = h
      by (Some p) = λ k. first_of_both (not o.early || passes is_early q) (is_none o.tie || passes (λ n. passes (ties_to n) q) o.tie) h k && true

      go : (l : Loc) → flags_fit (q, operands.Reg (physical_at t rs o l)) ≡ true
      go (Virtual v) = by (part_of t (register_of rs v) o.index)
      go (Fixed p) = h
  flag (q, operands.Imm z) h = h
  flag (q, operands.Block z) h = h
  flag (q, operands.Stack z) h = h
  flag (q, operands.FixedStack z) h = h
  flag (q, operands.Symbol z) h = h
  flag (q, operands.Index z) h = h
  flag (q, operands.Mask z) h = h

  module _ (f g : Function) (clear : IsClear t f rs) (i : Instr) (names : AreNamed t f g rs clear i.operands) (n : ℕ) (flags : list_all flags_fit (bound t i) ≡ true) (ties : list_all shares_register (tied_pairs t i) ≡ true) where
    abbrev x : Instr
    x = record (physical_instr t rs i) { id = n }

    bounds : bound t x ≡ map (move-bound t rs) (bound t i)
    bounds = bound-same t rs i (implicit-fixed t f g rs clear i.operands names)

    pairs : tied_pairs t x ≡ map moved-pair (tied_pairs t i)
    pairs = ap (filter_map (tied_pair (moves t rs i.operands))) bounds ∙ pairs-moved i.operands (bound t i)

    pub eleven : V11 t forms.Allocated g x ≡ true
    unfolding V11
    eleven =
        λ k. (ap (list_all flags_fit) bounds ∙ all-more flags_fit (move-bound t rs) (bound t i) (λ b m. flag b (all-of flags_fit b (bound t i) m flags))) k
        && (ap (list_all (λ (p : TiedPair). tie_fits t forms.Allocated g p.definition p.tied_use)) pairs
        ∙ all-more (λ (p : TiedPair). tie_fits t forms.Allocated g p.definition p.tied_use) moved-pair (tied_pairs t i) (λ p m. tied-one g p.definition p.tied_use (all-of shares_register p (tied_pairs t i) m ties))) k

pub physical-ties : PhysicalTies
physical-ties t f rs slots live stand flags ties =
    each-made t f rs slots live stand (λ g x. V11 t forms.Allocated g x) (λ b i mb mi names away shaped n.
    eleven t rs f (physical_form t rs slots live f) stand.clear i names n (flags b i mb mi) (ties b i mb mi))
