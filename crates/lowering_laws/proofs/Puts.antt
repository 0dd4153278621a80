-- What puts a register together becomes copies and IMPLICIT_DEFs.
use Rattle.std.specs.Prelude.{is_some}
use Rattle.target_base.specs.declared.types.ClassId.{ClassId}
use Rattle.target_base.specs.Registers.{fits, lanes_of, widths_of_some}
use Rattle.meaning.specs.declared.types.Lane.{Lane}
use Rattle.mir_func.specs.declared.func.Loc.{Loc}
use Rattle.mir_meaning.specs.Rules.{has_class, has_lanes_at, index_fits}
use Rattle.instr_effects.proofs.Members.{map-in}
use Rattle.live_laws.proofs.Effects.Shapes.{fits-within, numbers-in}
use Rattle.live_laws.specs.Effects.Shaped.{AreClasses}
use Rattle.lowering_laws.proofs.Built.{whole_copy}
use Rattle.std.proofs.Common.{◌<◌, arith, None, ◌≡◌, ◌⊎◌, inl, inr, ◌∷◌, ◌++◌, ◌∙◌, ◌&&◌, ◌≤◌, ℕ, Bool, true, false, cond, List, Option, Some, map, length, refl, sym, ap, subst, append-nil, append_assoc, []}
use Rattle.target_base.specs.declared.types.IndexId.{IndexId}
use Rattle.target_base.specs.declared.types.Target.{Target}
use Rattle.meaning.specs.Code.{Silent}
use Rattle.meaning.specs.Lanes.{Reads, Writes}
use Rattle.meaning.specs.Live.{Among, writes_of}
use Rattle.meaning.specs.Relations.{Rel}
use Rattle.meaning.specs.declared.types.Source.TheVariants.{FromLane, Undef}
use Rattle.laws.proofs.Core.{Plan}
use Rattle.mir_func.specs.declared.func.Loc.TheVariants.{Fixed, Virtual}
use Rattle.mir_func.specs.declared.func.RegOp.{RegOp}
use Rattle.mir_func.specs.declared.func.Operand.TheVariants as operands
use Rattle.mir_func.specs.declared.func.Op.TheVariants as ops
use Rattle.mir_func.specs.declared.func.Instr.{Instr}
use Rattle.mir_func.specs.declared.func.Block.{Block}
use Rattle.mir_func.specs.Value.{Function}
use Rattle.mir_func.specs.Binding.{class_of, does, effect_of, ends_control, is_definition, is_terminator, passes}
use Rattle.mir_meaning.specs.Registers.{located_lanes, numbers, operand_lanes, range_lanes, range_widths, use_sources}
use Rattle.mir_meaning.specs.Items.{moved, undefined, copied, defined_undef}
use Rattle.mir_meaning.specs.Codes.{item_of}
use Rattle.phi_elim.specs.Moves.{copy_of, copy_op, implicit_def_op, move_of, source_of, undefining, whole_definition, whole_use}
use Rattle.two_address.specs.Lowered.{instr_lowered, ties_lowered}
use Rattle.two_address.specs.Sequences.{keeping_text}
use Rattle.two_address.specs.Ties.{undefined_first, undefined_whole}
use Rattle.lowering_laws.proofs.Alike.{Equal}
use Rattle.lowering_laws.proofs.Classes.{AllNamed, class-stays, item-stays, lanes-stay}
use Rattle.lowering_laws.proofs.Lowering.{map-append}
use Rattle.lowering_laws.proofs.Olds.{AllOld, is_old, use-old, writes-are-old}
use Rattle.lowering_laws.proofs.Operands.{named}
use Rattle.lowering_laws.proofs.Placed.{copy-effect, copy-item, undef-effect, undef-item}
use Rattle.lowering_laws.proofs.Plain.{same-classes}
use Rattle.lowering_laws.proofs.Replaced.{EndsAlike, InstrStep, K, h, made}
use Rattle.lowering_laws.proofs.Ruled.{InstrRules}
use Rattle.lowering_laws.proofs.Same.{undef-alike, copied-alike}
use Rattle.lowering_laws.proofs.Steps.{one-silent}
use Rattle.lowering_laws.proofs.Stretches.{Stretch}
use Rattle.lowering_laws.proofs.Traced.{lanes_by, silents}
use Rattle.lowering_laws.proofs.Undefs.{GivesAlike, moved-undef}
use Rattle.target_base.specs.declared.types.Effect.{Effect}

-- copies and IMPLICIT_DEFs

abbrev pub IsMove : Instr → Type 0
IsMove y = (y.op ≡ ops.Known copy_op) ⊎ (y.op ≡ ops.Known implicit_def_op)

abbrev pub AllMoves : List Instr → Type 0
AllMoves [] = Unit {0}
AllMoves (y ∷ ys) = IsMove y × AllMoves ys

pub append-moves : (xs ys : List Instr) → AllMoves xs → AllMoves ys → AllMoves (xs ++ ys)
append-moves [] ys x y = y
append-moves (z ∷ xs) ys x y = (x.0, append-moves xs ys x.1 y)

pub kept-moves : (i : Instr) (xs : List Instr) → AllMoves xs → AllMoves (keeping_text i xs)
kept-moves i [] x = tt
kept-moves i (y ∷ ys) x = x

pub move-is : (to s : RegOp) → IsMove (move_of to s)
move-is to s = go s.undef
  where
    go : (u : Bool) → IsMove (cond u (undefining to) (copy_of to (source_of s)))
    go true = inr refl
    go false = inl refl

pub last-of : (y : Instr) (ys : List Instr) → AllMoves (y ∷ ys) → (front : List Instr) × (last : Instr) × (y ∷ ys ≡ front ++ last ∷ []) × IsMove last
last-of y [] m = ([], y, refl, m.0)
last-of y (z ∷ zs) m = let w = last-of z zs m.1 in (y ∷ w.0, w.1, ap (λ q. y ∷ q) w.2, w.3)

module _ (t : Target) where
  move-silent : (y : Instr) → IsMove y → (does ends_control t y ≡ false) × (does is_terminator t y ≡ false)
  move-silent y (inl e) = (ap (passes ends_control) (copy-effect t y e), ap (passes is_terminator) (copy-effect t y e))
  move-silent y (inr e) = (ap (passes ends_control) (undef-effect t y e), ap (passes is_terminator) (undef-effect t y e))

  kept-item : (g : Function) (a : Block) (i y : Instr) → IsMove y → item_of t g a (record y { flags = i.flags; tail = i.tail }) ≡ item_of t g a y
  kept-item g a i y (inl e) = copy-item t g a (record y { flags = i.flags; tail = i.tail }) e ∙ sym (copy-item t g a y e)
  kept-item g a i y (inr e) = undef-item t g a (record y { flags = i.flags; tail = i.tail }) e ∙ sym (undef-item t g a y e)

  kept-items : (g : Function) (a : Block) (i : Instr) (ys : List Instr) → AllMoves ys → map (item_of t g a) (keeping_text i ys) ≡ map (item_of t g a) ys
  kept-items g a i [] m = refl
  kept-items g a i (y ∷ ys) m = ap (λ x. x ∷ map (item_of t g a) ys) (kept-item g a i y m.0)

module _ (t : Target) (f : Function) where
  abbrev H : Function
  H = h t f

  abbrev G : Function
  G = ties_lowered t f

  abbrev n : ℕ
  n = length f.classes

  abbrev E : Rel
  E = Equal n

  abbrev P : Plan
  P = K t f

  -- the lanes of an index that fits are known, and lie within its register
  pub lanes-known : (l : Loc) (x : IndexId) → has_class f l ≡ true → index_fits t f l (Some x) ≡ true → has_lanes_at t f l (Some x) ≡ true
  lanes-known (Fixed q) x e g = refl
  lanes-known (Virtual w) x e g = go (class_of f w) e g
    where
      go : (q : Option ClassId) → is_some q ≡ true → elim q [ None ↦ true | Some y ↦ fits t y (Some x) ] ≡ true → passes (λ y. fits t y (Some x)) q ≡ true
      go None e g = absurd (cc)
      go (Some y) e g = g

  pub index-within : AreClasses t f → (v : ℕ) (x : IndexId) → has_class f (Virtual v) ≡ true → index_fits t f (Virtual v) (Some x) ≡ true → (k : ℕ) → Among k (lanes_of t x) → Among k (numbers 0 (length (range_widths t H v)))
  index-within classes v x h g k m = numbers-in k 0 (length (range_widths t H v)) (omega arith) (let one = below (class_of f v) refl h g in let two = ap (λ q. length (widths_of_some t q)) (class-stays t f (made t f) v h) in omega (arith, one, two))
    where
      below : (q : Option ClassId) → class_of f v ≡ q → is_some q ≡ true → elim q [ None ↦ true | Some y ↦ fits t y (Some x) ] ≡ true → k < length (widths_of_some t (class_of f v))
      below None e h g = absurd (cc)
      below (Some y) e h g = subst (λ q. k < length (widths_of_some t q)) (sym e) (fits-within t y x k (classes v y e) g m)

  -- lanes of an operand are old
  pub old-lanes : (o : RegOp) → has_class f o.loc ≡ true → (l : Lane) → Among l (operand_lanes t H o) → is_old n l ≡ true
  old-lanes o h l k = use-old t f (record o { undef = false }) h (FromLane l) (map-in FromLane l (operand_lanes t f o) (subst (Among l) (lanes-stay t f (made t f) o.loc o.index h) k))

  -- the copy of one register to another as wide
  pub copy-whole-item : (v c : ℕ) → range_widths t H c ≡ range_widths t H v → (a : Block) → item_of t G a (copy_of (whole_definition v) (whole_use c)) ≡ Silent [] (whole_copy v c (length (range_widths t H v)))
  copy-whole-item v c same a =
      copy-item t G a (copy_of (whole_definition v) (whole_use c)) refl
      ∙ ap (λ ws. Silent [] ws)
      (copied-alike t H G (same-classes t f) (operands.Reg (whole_definition v) ∷ operands.Reg (whole_use c) ∷ [])
      ∙ (append-nil (moved false (range_lanes t H v) (map FromLane (range_lanes t H c)))
      ∙ (λ k. moved false (range_lanes t H v) (map FromLane (lanes_by c (numbers 0 (length (same k))))))))

  -- what gives lanes of a virtual register the value of an operand
  module _ (v : ℕ) (x : Option IndexId) (s : RegOp) (long : length (located_lanes t H (Virtual v) x) ≤ length (operand_lanes t H s)) where
    abbrev to : RegOp
    to = record (whole_definition v) { index = x }

    pub moves-item : (a : Block) (y : Instr) → y.op ≡ (move_of to s).op → y.operands ≡ (move_of to s).operands → item_of t G a y ≡ Silent [] (moved false (located_lanes t H (Virtual v) x) (use_sources t H s))
    moves-item a y = go s.undef refl
      where
        go : (u : Bool) → s.undef ≡ u → y.op ≡ (cond u (undefining to) (copy_of to (source_of s))).op → y.operands ≡ (cond u (undefining to) (copy_of to (source_of s))).operands → item_of t G a y ≡ Silent [] (moved false (located_lanes t H (Virtual v) x) (use_sources t H s))
        go true e op os =
            undef-item t G a y op
            ∙ ap (λ ws. Silent [] ws)
            (undef-alike t H G (same-classes t f) y.operands
            ∙ (ap (λ qs. defined_undef t H qs) os
            ∙ (ap (undefined false) (append-nil (located_lanes t H (Virtual v) x))
            ∙ (sym (moved-undef false (located_lanes t H (Virtual v) x) (operand_lanes t H s) long)
            ∙ (λ k. moved false (located_lanes t H (Virtual v) x) (map (cond (sym e k) (λ l. Undef) FromLane) (operand_lanes t H s)))))))
        go false e op os =
            copy-item t G a y op
            ∙ ap (λ ws. Silent [] ws)
            (copied-alike t H G (same-classes t f) y.operands
            ∙ (ap (λ qs. copied t H qs) os
            ∙ append-nil (moved false (located_lanes t H (Virtual v) x) (use_sources t H s))))

  module _ (all : AllNamed f f.blocks) (b : Block) (i : Instr) (r : InstrRules t f i) (e : Effect) (known : effect_of t i ≡ Some e) (quiet : (ends_control e ≡ false) × (is_terminator e ≡ false)) (c : ℕ) (d : RegOp) (is-def : is_definition d ≡ true) (v : ℕ) (at : d.loc ≡ Virtual v) (reads : Reads) (ws : Writes) (own : item_of t H b i ≡ Silent reads ws) where
    -- what is written before an `undef` result
    abbrev pub whole_before : List Writes
    whole_before = cond d.undef (undefined false (range_lanes t H v) ∷ []) []

    first-items : (a : Block) → map (item_of t G a) (undefined_first (operands.Reg d)) ≡ silents whole_before
    first-items a = (λ k. map (item_of t G a) (cond (is-def k && d.undef) (undefined_whole (at k)) [])) ∙ go d.undef
      where
        go : (y : Bool) → map (item_of t G a) (cond (true && y) (undefined_whole (Virtual v)) []) ≡ silents (cond y (undefined false (range_lanes t H v) ∷ []) [])
        go true = ap (λ x. x ∷ []) (undef-item t G a (undefining (whole_definition v)) refl ∙ ap (λ ws. Silent [] ws) (undef-alike t H G (same-classes t f) (operands.Reg (whole_definition v) ∷ []) ∙ ap (undefined false) (append-nil (range_lanes t H v))))
        go false = refl

    old : AllOld n ws
    old = subst (λ y. AllOld n (writes_of y)) own (subst (λ y. AllOld n (writes_of y)) (sym (item-stays t f (made t f) all b i (λ o m. named t f i r o m))) (writes-are-old t f b i (λ o m. named t f i r o m)))

    pub puts : (made_list : List Instr) (wss : List Writes) → AllMoves made_list → (made_list ≡ [] → ⊥) → instr_lowered t f.classes c i ≡ undefined_first (operands.Reg d) ++ keeping_text i made_list → ((a : Block) → map (item_of t G a) made_list ≡ silents wss) → GivesAlike n ws (whole_before ++ wss) → InstrStep t f b c i
    puts made_list wss moves some lowers items alike = record {
      keeps = λ js.
          let a : Block = record b { instrs = js } in
          subst (λ is. Stretch P E E (item_of t H b i ∷ []) (map (item_of t G a) is)) (sym lowers)
          (subst (λ q. Stretch P E E (item_of t H b i ∷ []) q) (sym (all-items a))
          (subst (λ y. Stretch P E E (y ∷ []) (silents (whole_before ++ wss))) (sym own)
          (one-silent P n reads ws (whole_before ++ wss) old alike)));
      ends = by-list made_list refl moves;
    }
      where
        all-items : (a : Block) → map (item_of t G a) (undefined_first (operands.Reg d) ++ keeping_text i made_list) ≡ silents (whole_before ++ wss)
        all-items a =
            map-append (item_of t G a) (undefined_first (operands.Reg d)) (keeping_text i made_list)
            ∙ ((λ k. first-items a k ++ (kept-items t G a i made_list moves ∙ items a) k)
            ∙ sym (map-append (λ ws. Silent [] ws) whole_before wss))

        by-last : (y : Instr) (ys : List Instr) → keeping_text i made_list ≡ y ∷ ys → AllMoves (y ∷ ys) → EndsAlike t i (instr_lowered t f.classes c i)
        by-last y ys e m =
            let z = last-of y ys m in
            let x = undefined_first (operands.Reg d) in
            record {
              front = x ++ z.0;
              last = z.1;
              are = lowers ∙ (ap (λ xs. x ++ xs) (e ∙ z.2) ∙ sym (append_assoc x z.0 (z.1 ∷ [])));
              control = (move-silent t z.1 z.3).0 ∙ sym (ap (passes ends_control) known ∙ quiet.0);
              terminator = (move-silent t z.1 z.3).1 ∙ sym (ap (passes is_terminator) known ∙ quiet.1);
            }

        by-list : (xs : List Instr) → made_list ≡ xs → AllMoves xs → EndsAlike t i (instr_lowered t f.classes c i)
        by-list [] e m = absurd (some e)
        by-list (y ∷ ys) e m = by-last (record y { flags = i.flags; tail = i.tail }) ys (ap (keeping_text i) e) (kept-moves i (y ∷ ys) m)
