-- A counted instruction does behind lowering of its ties what it did: each tied use has become the register of its
-- definition, or one that stands in for it, and `undef` operands are none or read no register of the function.
use Rattle.std.proofs.Common.{◌≡◌, ◌∷◌, ◌++◌, ◌∙◌, ◌&&◌, ◌||◌, ℕ, Bool, true, false, cond, List, Option, Some, None, map, flat_map, length, refl, sym, ap, subst, append-nil, append_assoc, []}
use Rattle.std.specs.Prelude.{option_map}
use Rattle.meaning.specs.Code.{Counted, Item, Silent}
use Rattle.meaning.specs.Lanes.{Writes, filled, through}
use Rattle.meaning.specs.Live.{Among, here, there}
use Rattle.meaning.specs.Relations.{AlikeFill, AlikeOperands, Rel, Within as RelWithin, after_both, along}
use Rattle.meaning.specs.Rows.{first_edges, first_target, second_edges, second_target}
use Rattle.meaning.specs.declared.types.EdgePair.{EdgePair}
use Rattle.meaning.specs.declared.types.Constant.{Constant}
use Rattle.meaning.specs.declared.types.Lane.{Lane}
use Rattle.meaning.specs.declared.types.Lane.TheVariants.{UnitLane}
use Rattle.meaning.specs.declared.types.Source.{Source}
use Rattle.meaning.specs.declared.types.Source.TheVariants.{Bits, FromLane, Undef}
use Rattle.laws.proofs.Core.{Plan, Reaches}
use Rattle.mir_func.specs.declared.func.Loc.{Loc}
use Rattle.mir_func.specs.declared.func.Loc.TheVariants.{Fixed, Virtual}
use Rattle.mir_func.specs.declared.func.RegOp.{RegOp}
use Rattle.mir_func.specs.declared.func.Operand.{Operand}
use Rattle.mir_func.specs.declared.func.Operand.TheVariants as operands
use Rattle.mir_func.specs.declared.func.Instr.{Instr}
use Rattle.mir_func.specs.declared.func.Block.{Block}
use Rattle.mir_func.specs.Value.{Function}
use Rattle.mir_func.specs.Binding.{is_conditional, Bound, does, ends_control, is_definition, is_early_clobber, is_terminator, numbered, passes, registers, roles_of}
use Rattle.mir_meaning.specs.Registers.{located_lanes, numbers, operand_lanes, range_lanes, range_widths}
use Rattle.mir_meaning.specs.Items.{counted_writes, rest_of, silent_reads, silent_writes, undefined, values}
use Rattle.mir_meaning.specs.Codes.{item_of, target_of, way, ways_out}
use Rattle.mir_meaning.specs.Renaming.{IsFixed}
use Rattle.phi_elim.specs.Moves.{copy_of, undefining, whole_definition}
use Rattle.two_address.specs.Classes.{seated}
use Rattle.two_address.specs.Lowered.{form_lowered, instr_lowered, ties_lowered}
use Rattle.two_address.specs.Ties.{ties_among, copies, retied_operand, ties_in, undefined_first, undefined_whole, with_operands}
use Rattle.two_address.specs.declared.ties.Move.{Move}
use Rattle.two_address.specs.declared.ties.Tie.{Tie}
use Rattle.instr_effects.proofs.Members.{member-elim, member-none}
use Rattle.lowering_laws.proofs.Alike.{Equal}
use Rattle.lowering_laws.proofs.Found.{place, register-missed}
use Rattle.lowering_laws.proofs.Lowering.{map-append}
use Rattle.lowering_laws.proofs.Olds.{is_old, old_source}
use Rattle.lowering_laws.proofs.Operands.{named}
use Rattle.lowering_laws.proofs.Placed.{copy-effect, copy-item, undef-item}
use Rattle.lowering_laws.proofs.Places.{AllInPlace, reads-alike, registers-in, rest-same, target-same}
use Rattle.lowering_laws.proofs.Plain.{other-form, same-classes}
use Rattle.lowering_laws.proofs.Replaced.{EndsAlike, InstrStep, K, along-equal, h}
use Rattle.lowering_laws.proofs.Unmoved.{known-item}
use Rattle.lowering_laws.proofs.Rolled.{terminator-plain, terminator-untied}
use Rattle.lowering_laws.proofs.Chained.{both-ways, ends-ways, exits-within, first-ways, second-ways}
use Rattle.lowering_laws.proofs.Same.{copied-alike, counted-alike, undef-alike}
use Rattle.lowering_laws.proofs.Steps.{Before, one-counted}
use Rattle.lowering_laws.proofs.Stretches.{Stretch, along-more, both-counted, lessened}
use Rattle.lowering_laws.proofs.Tied.{lane_numbers, lanes-numbered}
use Rattle.lowering_laws.proofs.Traced.{silents, traced, traced-bits}
use Rattle.lowering_laws.proofs.Counted.{CountedInstr, MoveIs, move-is, virtual, into_new, into_own}
use Rattle.lowering_laws.proofs.CopiesBefore.{afters, all-within, befores, copy_writes, undef-same, undef_writes, untouched, whole_writes}
use Rattle.lowering_laws.proofs.CopiesBehind.{Comes, comes-from}
use Rattle.lowering_laws.proofs.CountedOperands.{placed}
use Rattle.lowering_laws.proofs.CountedWrites.{both-fill, implicit-fixed}

module _ (site : CountedInstr) (bare' : (n m : ℕ) → (way site.t (ties_lowered site.t site.f) n m).phis ≡ []) (b : Block) where
  open site use {t, f, i, r, e, known, counts, rolled, form, c}

  abbrev H : Function
  H = h t f

  abbrev G : Function
  G = ties_lowered t f

  abbrev n : ℕ
  n = length f.classes

  abbrev E : Rel
  E = Equal n

  abbrev P : Plan
  P = K t f

  abbrev os : List Operand
  os = i.operands

  abbrev bs : List Bound
  bs = seated t i

  abbrev T : List Tie
  T = ties_in t c i

  abbrev undefs : List Writes
  undefs = flat_map (undef_writes site) os

  abbrev pre : List Writes
  pre = undefs ++ befores site T

  abbrev post : List Writes
  post = afters site T

  abbrev R : Rel
  R = Before P n pre

  abbrev os' : List Operand
  os' = map (retied_operand t f.classes T) (numbered 0 bs)

  abbrev new : Instr
  new = with_operands t f.classes T i

  -- items

  abbrev pre-instrs : List Instr
  pre-instrs = flat_map undefined_first os ++ flat_map (λ (tie : Tie). copies tie.before) T

  abbrev post-instrs : List Instr
  post-instrs = flat_map (λ (tie : Tie). copies tie.after) T

  lowered : instr_lowered t f.classes c i ≡ pre-instrs ++ (new ∷ post-instrs)
  lowered =
      ap (λ x. flat_map undefined_first os ++ form_lowered t f.classes c i x) (other-form t i e known form.0 form.1)
      ∙ sym (append_assoc (flat_map undefined_first os) (flat_map (λ (tie : Tie). copies tie.before) T) (new ∷ post-instrs))

  module _ (d : Block) where
    whole-items : (l : Loc) → map (item_of t G d) (undefined_whole l) ≡ silents (whole_writes site l)
    whole-items (Virtual v) = ap (λ x. x ∷ []) (undef-item t G d (undefining (whole_definition v)) refl ∙ ap (λ ws. Silent [] ws) (undef-alike t H G (same-classes t f) (operands.Reg (whole_definition v) ∷ []) ∙ ap (undefined false) (append-nil (range_lanes t H v))))
    whole-items (Fixed q) = refl

    undef-items : (x : Operand) → map (item_of t G d) (undefined_first x) ≡ silents (undef_writes site x)
    undef-items (operands.Reg o) = go (is_definition o && o.undef)
      where
        go : (y : Bool) → map (item_of t G d) (cond y (undefined_whole o.loc) []) ≡ silents (cond y (whole_writes site o.loc) [])
        go true = whole-items o.loc
        go false = refl
    undef-items x = refl

    copy-items : (q : Option Move) → map (item_of t G d) (copies q) ≡ silents (copy_writes site q)
    copy-items None = refl
    copy-items (Some m) = ap (λ x. x ∷ []) (copy-item t G d (copy_of m.to m.from) refl ∙ ap (λ ws. Silent [] ws) (copied-alike t H G (same-classes t f) (operands.Reg m.to ∷ operands.Reg m.from ∷ [])))

    flat-items : {X : Type 0} (g : X → List Instr) (w : X → List Writes) → ((x : X) → map (item_of t G d) (g x) ≡ silents (w x)) → (xs : List X) → map (item_of t G d) (flat_map g xs) ≡ silents (flat_map w xs)
    flat-items g w q [] = refl
    flat-items g w q (x ∷ xs) =
        map-append (item_of t G d) (g x) (flat_map g xs)
        ∙ ((λ k. q x k ++ flat-items g w q xs k)
        ∙ sym (map-append (λ ws. Silent [] ws) (w x) (flat_map w xs)))

    pre-items : map (item_of t G d) pre-instrs ≡ silents pre
    pre-items =
        map-append (item_of t G d) (flat_map undefined_first os) (flat_map (λ (tie : Tie). copies tie.before) T)
        ∙ ((λ k. flat-items undefined_first (undef_writes site) undef-items os k ++ flat-items (λ (tie : Tie). copies tie.before) (λ (tie : Tie). copy_writes site tie.before) (λ tie. copy-items tie.before) T k)
        ∙ sym (map-append (λ ws. Silent [] ws) undefs (befores site T)))

    post-items : map (item_of t G d) post-instrs ≡ silents post
    post-items = flat-items (λ (tie : Tie). copies tie.after) (λ (tie : Tie). copy_writes site tie.after) (λ tie. copy-items tie.after) T

    all-items : map (item_of t G d) (pre-instrs ++ (new ∷ post-instrs)) ≡ silents pre ++ (item_of t G d new ∷ silents post)
    all-items = map-append (item_of t G d) pre-instrs (new ∷ post-instrs) ∙ (λ k. pre-items k ++ (item_of t G d new ∷ post-items k))

  fixed-in : (xs ys : List RegOp) → AllInPlace t H R (Comes site) xs ys → ((o : RegOp) → Among o xs → o.implicit ≡ true → IsFixed o.loc) → (o : RegOp) → Among o ys → o.implicit ≡ true → IsFixed o.loc
  fixed-in [] [] z g o m q = absurd (member-none o m)
  fixed-in [] (x ∷ ys) z g o m q = absurd (z)
  fixed-in (x ∷ xs) [] z g o m q = absurd (z)
  fixed-in (x ∷ xs) (y ∷ ys) z g o m q =
      member-elim o y ys
      (λ s. let imp : x.implicit ≡ true = sym z.0.implicit ∙ (ap (λ (w : RegOp). w.implicit) (sym s) ∙ q) in subst (λ (w : RegOp). IsFixed w.loc) (sym (s ∙ z.0.stays imp)) (g x here imp))
      (λ k. fixed-in xs ys z.1 (λ w l. g w (there l)) o k q) m

  bits : (x : Constant) (low width : ℕ) → R (Bits x low width) (Bits x low width)
  bits x low width = (refl, traced-bits pre x low width)

  units : (w : ℕ) → R (FromLane (UnitLane w)) (FromLane (UnitLane w))
  units w = (refl, untouched site T (all-within site) (UnitLane w) (record { wholes = λ d a g u v at. register-missed v (numbers 0 (length (range_widths t H v))) (UnitLane w) refl; moves = λ tie a m g. by (move-is site tie a m g) }))
    where
      by : {tie : Tie} {m : Move} → MoveIs site tie m → place (operand_lanes t H m.to) (UnitLane w) ≡ None
      by (into_new x s z q) = subst (λ (d : Move). place (operand_lanes t H d.to) (UnitLane w) ≡ None) (sym q) (register-missed x (numbers 0 (length (range_widths t H x))) (UnitLane w) refl)
      by (into_own z q) =
          let v = virtual site z.pair z.member z.virtual_use in
          let d = z.pair.definition in
          subst (λ (d : Move). place (operand_lanes t H d.to) (UnitLane w) ≡ None) (sym q)
          ((λ x. place (located_lanes t H (v.1 x) d.index) (UnitLane w)) ∙ ((λ x. place (lanes-numbered t H v.0 d.index x) (UnitLane w)) ∙ register-missed v.0 (lane_numbers t H v.0 d.index) (UnitLane w) refl))

  alike : AlikeOperands R (map (λ v. v.0) (values t H e i)) (map (λ v. v.0) (values t H e new))
  alike = reads-alike t H R (Comes site) bits units (undef-same site) i os' (placed site) e (implicit-fixed site)

  module _ (to : target_of i.operands ≡ None) (goes : is_terminator e ≡ false) where
    abbrev old-item : Item
    old-item = Counted (rest_of t H e i) (map (λ v. v.0) (values t H e i)) (counted_writes t H e i) None []

    abbrev new-item : Item
    new-item = Counted (rest_of t H e i) (map (λ v. v.0) (values t H e new)) (counted_writes t H e new) None []

    first-item : item_of t H b i ≡ old-item
    first-item =
        known-item t H b i e known
        ∙ (λ k. cond (counts k) (Silent (silent_reads t H e i.operands) (silent_writes t H e (is_early_clobber (roles_of t i)) i.operands)) (Counted (rest_of t H e i) (map (λ v. v.0) (values t H e i)) (counted_writes t H e i) (option_map (way t H b.number) (to k)) (cond (goes k) (ways_out t H b) [])))

    second-item : (d : Block) → item_of t G d new ≡ new-item
    second-item d =
        let same = counted-alike t H G (same-classes t f) bare' new (fixed-in (registers os) (registers os') (registers-in t H R (Comes site) (placed site)) (λ o m. (named t f i r o m).fixed)) e known counts in
        known-item t G d new e known
        ∙ ((λ k. cond (counts k) (Silent (silent_reads t G e os') (silent_writes t G e (is_early_clobber (roles_of t i)) os')) (Counted (same.0 k) (same.1 k) (same.2 k) (option_map (way t G d.number) ((target-same t H R (Comes site) (placed site) ∙ to) k)) (cond (goes k) (ways_out t G d) [])))
        ∙ (λ k. Counted (rest-same t H R (Comes site) bits units (undef-same site) i os' (placed site) e (implicit-fixed site) k) (map (λ v. v.0) (values t H e new)) (counted_writes t H e new) None []))

    behind : (a : Lane) → is_old n a ≡ true → AlikeFill R (filled (counted_writes t H e i) a) (through (counted_writes t H e new) (traced post (FromLane a)))
    behind a o = let z = comes-from site a o in subst (λ s. AlikeFill R (filled (counted_writes t H e i) a) (through (counted_writes t H e new) s)) (sym z.1) (both-fill site a z.0 o z.2)

    -- the last of them ends control as the instruction does

    abbrev Quiet : Instr → Type 0
    Quiet y = (does ends_control t y ≡ does ends_control t i) × (does is_terminator t y ≡ does is_terminator t i)

    abbrev AllQuiet : List Instr → Type 0
    AllQuiet [] = Unit {0}
    AllQuiet (y ∷ ys) = Quiet y × AllQuiet ys

    ends-by : (xs : List Instr) (x : Instr) (ys : List Instr) → Quiet x → AllQuiet ys → EndsAlike t i (xs ++ (x ∷ ys))
    ends-by xs x [] q all = record { front = xs; last = x; are = refl; control = q.0; terminator = q.1 }
    ends-by xs x (y ∷ ys) q all =
        let z = ends-by (xs ++ (x ∷ [])) y ys all.0 all.1 in
        record { front = z.front; last = z.last; are = sym (append_assoc xs (x ∷ []) (y ∷ ys)) ∙ z.are; control = z.control; terminator = z.terminator }

    ends-none : does ends_control t i ≡ false
    ends-none = ap (passes ends_control) known ∙ either (ends_control e) (is_conditional e) goes
      where
        either : (a z : Bool) → (a || z) ≡ false → a ≡ false
        either true z g = absurd (cc)
        either false z g = refl

    quiet-copy : (m : Move) → Quiet (copy_of m.to m.from)
    quiet-copy m = (ap (passes ends_control) (copy-effect t (copy_of m.to m.from) refl) ∙ sym ends-none, ap (passes is_terminator) (copy-effect t (copy_of m.to m.from) refl) ∙ sym (ap (passes is_terminator) known ∙ goes))

    quiet-copies : (q : Option Move) (ys : List Instr) → AllQuiet ys → AllQuiet (copies q ++ ys)
    quiet-copies None ys all = all
    quiet-copies (Some m) ys all = (quiet-copy m, all)

    quiet-all : (ts : List Tie) → AllQuiet (flat_map (λ (tie : Tie). copies tie.after) ts)
    quiet-all [] = tt
    quiet-all (tie ∷ ts) = quiet-copies tie.after (flat_map (λ (tie : Tie). copies tie.after) ts) (quiet-all ts)

    pub counted-step : InstrStep t f b c i
    counted-step = record {
      keeps = λ js.
          let d : Block = record b { instrs = js } in
          subst (λ is. Stretch P E E (item_of t H b i ∷ []) (map (item_of t G d) is)) (sym lowered)
          (subst (λ xs. Stretch P E E (item_of t H b i ∷ []) xs) (sym (all-items d))
          (subst (λ x. Stretch P E E (x ∷ []) (silents pre ++ (item_of t G d new ∷ silents post))) (sym first-item)
          (subst (λ x. Stretch P E E (old-item ∷ []) (silents pre ++ (x ∷ silents post))) (sym (second-item d))
          (one-counted P n (rest_of t H e i) (map (λ v. v.0) (values t H e i)) (map (λ v. v.0) (values t H e new)) (counted_writes t H e i) (counted_writes t H e new) pre post alike behind))));
      ends = subst (λ is. EndsAlike t i is) (sym lowered) (ends-by pre-instrs new post-instrs (refl, refl) (quiet-all T));
    }

  -- a terminator ties and defines nothing, so that it reads alone
  module _ (bare : (n m : ℕ) → (way t (h t f) n m).phis ≡ []) (ends : is_terminator e ≡ true) where
    untied-all : T ≡ []
    untied-all = ap (ties_among bs c) (terminator-untied t f i e known rolled r.one ends)

    none-defined : (o : RegOp) → Among (operands.Reg o) os → is_definition o ≡ false
    none-defined o m = terminator-plain t f i e known rolled r.one ends o m

    instrs-none : (xs : List Operand) → ((x : Operand) → Among x xs → Among x os) → flat_map undefined_first xs ≡ []
    instrs-none [] w = refl
    instrs-none (x ∷ xs) w = λ k. one x (w x here) k ++ instrs-none xs (λ y m. w y (there m)) k
      where
        one : (x : Operand) → Among x os → undefined_first x ≡ []
        one (operands.Reg o) m = λ k. cond (none-defined o m k && o.undef) (undefined_whole o.loc) []
        one x m = refl

    undefs-none : (xs : List Operand) → ((x : Operand) → Among x xs → Among x os) → flat_map (undef_writes site) xs ≡ []
    undefs-none [] w = refl
    undefs-none (x ∷ xs) w = λ k. one x (w x here) k ++ undefs-none xs (λ y m. w y (there m)) k
      where
        one : (x : Operand) → Among x os → undef_writes site x ≡ []
        one (operands.Reg o) m = λ k. cond (none-defined o m k && o.undef) (whole_writes site o.loc) []
        one x m = refl

    pre-none : pre ≡ []
    pre-none = λ k. undefs-none os (λ x m. m) k ++ befores site (untied-all k)

    alone : instr_lowered t f.classes c i ≡ new ∷ []
    alone = lowered ∙ (λ k. (instrs-none os (λ x m. m) k ++ flat_map (λ (tie : Tie). copies tie.before) (untied-all k)) ++ (new ∷ flat_map (λ (tie : Tie). copies tie.after) (untied-all k)))

    reads-level : AlikeOperands E (map (λ v. v.0) (values t H e i)) (map (λ v. v.0) (values t H e new))
    reads-level = subst (λ (p : List Writes). AlikeOperands (Before P n p) (map (λ v. v.0) (values t H e i)) (map (λ v. v.0) (values t H e new))) pre-none alike

    gives-level : (a : Lane) → is_old n a ≡ true → AlikeFill E (filled (counted_writes t H e i) a) (filled (counted_writes t H e new) a)
    gives-level a o =
        let z = comes-from site a o in
        let same : FromLane z.0 ≡ FromLane a = sym z.1 ∙ (λ k. traced (afters site (untied-all k)) (FromLane a)) in
        subst (λ (p : List Writes). AlikeFill (Before P n p) (filled (counted_writes t H e i) a) (filled (counted_writes t H e new) a)) pre-none
        (subst (λ (s : Source). AlikeFill R (filled (counted_writes t H e i) a) (through (counted_writes t H e new) s)) same (both-fill site a z.0 o z.2))

    abbrev both-written : Rel
    both-written = after_both (counted_writes t H e i) (counted_writes t H e new) E

    level : RelWithin E both-written
    level s u k = subst (λ z. AlikeFill E (through (counted_writes t H e i) s) (through (counted_writes t H e new) z)) (sym k.1) (by s k.0)
      where
        by : (s : Source) → old_source n s ≡ true → AlikeFill E (through (counted_writes t H e i) s) (through (counted_writes t H e new) s)
        by (FromLane a) o = gives-level a o
        by Undef o = (refl, refl)
        by (Bits x low width) o = (refl, refl)

    into : (m : ℕ) → RelWithin (P m) (along (both-ways t H G P b.number m) both-written)
    into m s u k = along-more (both-ways t H G P b.number m) both-written E level s u (along-equal t f b.number m (bare b.number m) (bare' b.number m) s u k)

    abbrev goal : Option EdgePair
    goal = option_map (both-ways t H G P b.number) (target_of i.operands)

    abbrev ways : List EdgePair
    ways = ends-ways t H G P b.number b.successors

    first-to : (q : Option ℕ) → first_target (option_map (both-ways t H G P b.number) q) ≡ option_map (way t H b.number) q
    first-to None = refl
    first-to (Some m) = refl

    second-to : (q : Option ℕ) → second_target (option_map (both-ways t H G P b.number) q) ≡ option_map (way t G b.number) q
    second-to None = refl
    second-to (Some m) = refl

    reaches : (q : Option ℕ) → Reaches P (option_map (both-ways t H G P b.number) q) both-written
    reaches None = tt
    reaches (Some m) = into m

    first-side : item_of t H b i ≡ Counted (rest_of t H e i) (map (λ v. v.0) (values t H e i)) (counted_writes t H e i) (first_target goal) (first_edges ways)
    first-side =
        known-item t H b i e known
        ∙ (λ k. cond (counts k) (Silent (silent_reads t H e i.operands) (silent_writes t H e (is_early_clobber (roles_of t i)) i.operands)) (Counted (rest_of t H e i) (map (λ v. v.0) (values t H e i)) (counted_writes t H e i) (sym (first-to (target_of i.operands)) k) (cond (ends k) (sym (first-ways t H G P b.number b.successors) k) [])))

    second-side : (d : Block) → d.number ≡ b.number → d.successors ≡ b.successors → item_of t G d new ≡ Counted (rest_of t H e i) (map (λ v. v.0) (values t H e new)) (counted_writes t H e new) (second_target goal) (second_edges ways)
    second-side d number successors =
        let same = counted-alike t H G (same-classes t f) bare' new (fixed-in (registers os) (registers os') (registers-in t H R (Comes site) (placed site)) (λ o m. (named t f i r o m).fixed)) e known counts in
        known-item t G d new e known
        ∙ ((λ k. cond (counts k) (Silent (silent_reads t G e os') (silent_writes t G e (is_early_clobber (roles_of t i)) os')) (Counted (same.0 k) (same.1 k) (same.2 k) (option_map (way t G (number k)) (target-same t H R (Comes site) (placed site) k)) (cond (ends k) (map (λ s. way t G (number k) s.block) (successors k)) [])))
        ∙ (λ k. Counted (rest-same t H R (Comes site) bits units (undef-same site) i os' (placed site) e (implicit-fixed site) k) (map (λ v. v.0) (values t H e new)) (counted_writes t H e new) (sym (second-to (target_of i.operands)) k) (sym (second-ways t H G P b.number b.successors) k)))

    pub ending-step : InstrStep t f b c i
    ending-step = record {
      keeps = λ js.
          let d : Block = record b { instrs = js } in
          subst (λ is. Stretch P E E (item_of t H b i ∷ []) (map (item_of t G d) is)) (sym alone)
          (subst (λ x. Stretch P E E (x ∷ []) (item_of t G d new ∷ [])) (sym first-side)
          (subst (λ x. Stretch P E E (Counted (rest_of t H e i) (map (λ v. v.0) (values t H e i)) (counted_writes t H e i) (first_target goal) (first_edges ways) ∷ []) (x ∷ [])) (sym (second-side d refl refl))
          (lessened P E both-written E (Counted (rest_of t H e i) (map (λ v. v.0) (values t H e i)) (counted_writes t H e i) (first_target goal) (first_edges ways) ∷ []) (Counted (rest_of t H e i) (map (λ v. v.0) (values t H e new)) (counted_writes t H e new) (second_target goal) (second_edges ways) ∷ []) level
          (both-counted P E (rest_of t H e i) (map (λ v. v.0) (values t H e i)) (map (λ v. v.0) (values t H e new)) (counted_writes t H e i) (counted_writes t H e new) goal ways reads-level (reaches (target_of i.operands)) (exits-within t H G P b.number both-written b.successors (λ s m. into s.block))))));
      ends = record { front = []; last = new; are = alone; control = refl; terminator = refl };
    }
