-- A function after a join is its fold by the map that sends the one range to the other, and does what it did.
use Rattle.std.proofs.Common.{◌≡◌, not, ◌&&◌, ◌||◌, ◌++◌, ◌∷◌, ◌∙◌, ℕ, Bool, true, false, cond, List, [], Option, Some, None, map, filter, refl, sym, ap, subst}
use Rattle.std.specs.Prelude.{find, nat_eq, option_map}
use Rattle.std.specs.List.{list_all, list_any}
use Rattle.target_base.specs.declared.types.Effect.{Effect}
use Rattle.target_base.specs.declared.types.Effect.TheVariants as effects
use Rattle.target_base.specs.declared.types.Target.{Target}
use Rattle.target_base.specs.Numbers.{unit_number}
use Rattle.target_base.specs.Roles.{is_silent}
use Rattle.target_base.specs.Rules.{is_copy, is_phi}
use Rattle.target_base.specs.Storage.{unit_width}
use Rattle.target_base.proofs.Tests.{first_of_both, second_of_both}
use Rattle.meaning.specs.Code.{BlockEnd, BlockStart, Code, Counted, Edge, Item, Silent, entry_lane, start_state}
use Rattle.meaning.specs.Environment.{Environment}
use Rattle.meaning.specs.Fold.{Folded, Folds, Quiet, counted, deleted, done, end, silent, start, vanishes}
use Rattle.meaning.specs.Lanes.{Writes, same_lane}
use Rattle.meaning.specs.Layout.{LaidOut, NoPhis, NoPhisAlong, NoPhisBelow, NoPhisInto}
use Rattle.meaning.specs.Live.{Among as Member, here as first, there as later}
use Rattle.meaning.specs.declared.types.Lane.{Lane}
use Rattle.meaning.specs.declared.types.Lane.TheVariants.{SlotLane, UnitLane, VirtualLane}
use Rattle.meaning.specs.declared.types.Source.TheVariants.{FromLane, Undef}
use Rattle.mir_func.specs.declared.func.Edge.{Edge as Successor}
use Rattle.mir_func.specs.declared.func.RegOp.{RegOp}
use Rattle.mir_func.specs.declared.func.Instr.{Instr}
use Rattle.mir_func.specs.declared.func.Block.{Block}
use Rattle.mir_func.specs.Value.{Function}
use Rattle.mir_func.specs.Binding.{does, effect_of, is_definition, is_early_clobber, is_terminator, is_use, passes, registers, roles_of}
use Rattle.mir_meaning.specs.Registers.{is_reserved, operand_lanes, whole_lanes}
use Rattle.mir_meaning.specs.Items.{copied, counted_writes, moved, rest_of, silent_reads, silent_writes, undefined, values}
use Rattle.mir_meaning.specs.Codes.{block_end, blocks_code, code_of, effect_item, fallen_into, given_of, instrs_of, is_given, item_of, meaning_of, phi_operands, phis_written, target_of, way, ways_out}
use Rattle.mir_meaning.specs.Points.{has_no_phis}
use Rattle.mir_meaning.specs.Renaming.{KeepsPlaces, renamed_item}
use Rattle.mir_meaning.specs.Rules.{copy_fits}
use Rattle.mir_meaning.proofs.Points.{both, points_are_code}
use Rattle.mir_meaning.proofs.Renaming.{law_of_renaming}
use Rattle.instr_effects.proofs.Members.{filter-of, map-of}
use Rattle.live_laws.proofs.Touch.Roles.{met}
use Rattle.lowering_laws.specs.Form.{is_undef_use}
use Rattle.lowering_laws.specs.Shapes.{IsLowered}
use Rattle.lowering_laws.proofs.Found.{same-is, same-self}
use Rattle.live_edits.specs.declared.fold.Join.{Join}
use Rattle.live_edits.specs.Folded.{becomes_identity, folded, folded_block, image, joined_instr, joined_operand, lane_within, same_lanes}
use Rattle.join_laws.specs.Laws.{HasPlainUndefs}
use Rattle.join_laws.specs.Quiet.{IsQuiet}
use Rattle.join_laws.proofs.Asked.{IsAsked}
use Rattle.join_laws.proofs.Ends.{IsGone, fallen-same, first-same, gone-is, keep}
use Rattle.join_laws.proofs.Laid.{points-laid}
use Rattle.join_laws.proofs.Named.{known, named, not-phi, renames-all}

-- ways without phis

abbrev bare : ℕ → Edge
bare m = record { block = m; phis = [] }

each : {X : Type 0} (p : X → Bool) (xs : List X) → ((x : X) → Member x xs → p x ≡ true) → list_all p xs ≡ true
each p [] g = refl
each p (x ∷ xs) g = λ k. g x first k && each p xs (λ y m. g y (later m)) k

module _ (t : Target) where
  quiet-phis : (q : Function) (n : ℕ) (is : List Instr) → list_all (λ i. not (does is_phi t i)) is ≡ true → phis_written t q n is ≡ []
  quiet-phis q n [] e = refl
  quiet-phis q n (i ∷ is) e = go (does is_phi t i) e (quiet-phis q n is)
    where
      go : (b : Bool) → (not b && list_all (λ i. not (does is_phi t i)) is) ≡ true → (list_all (λ i. not (does is_phi t i)) is ≡ true → phis_written t q n is ≡ []) → phis_written t q n is ++ cond b (phi_operands t q n i.operands) [] ≡ []
      go true k ih = absurd (cc)
      go false k ih = ap (λ ws. ws ++ []) (ih k)

  found-without-phis : (bs : List Block) (m : ℕ) → has_no_phis t bs ≡ true → list_all (λ i. not (does is_phi t i)) (instrs_of bs m) ≡ true
  found-without-phis [] m e = refl
  found-without-phis (b ∷ bs) m e = let h = both (list_all (λ i. not (does is_phi t i)) b.instrs) (has_no_phis t bs) e in go (nat_eq b.number m) h.0 (found-without-phis bs m h.1)
    where
      go : (c : Bool) → list_all (λ i. not (does is_phi t i)) b.instrs ≡ true → list_all (λ i. not (does is_phi t i)) (instrs_of bs m) ≡ true → list_all (λ i. not (does is_phi t i)) (elim (cond c (Some b) (find (λ d. nat_eq d.number m) bs)) as (λ q. List Instr) [ None ↦ [] | Some d ↦ d.instrs ]) ≡ true
      go true x y = x
      go false x y = y

  way-bare : (q : Function) → has_no_phis t q.blocks ≡ true → (n m : ℕ) → way t q n m ≡ bare m
  way-bare q none n m = ap (λ ws. record { block = m; phis = ws }) (quiet-phis q n (instrs_of q.blocks m) (found-without-phis q.blocks m none))

  all-without-phis : (bs : List Block) → ((b : Block) (i : Instr) → Member b bs → Member i b.instrs → does is_phi t i ≡ false) → has_no_phis t bs ≡ true
  all-without-phis bs h = each (λ (b : Block). list_all (λ i. not (does is_phi t i)) b.instrs) bs (λ b mb. each (λ i. not (does is_phi t i)) b.instrs (λ i mi. ap not (h b i mb mi)))

  -- codes without phis on their ways
  module _ (f : Function) (none : has_no_phis t f.blocks ≡ true) where
    bare-ways : (n : ℕ) (es : List Successor) → NoPhisAlong (map (λ e. way t f n e.block) es)
    bare-ways n [] = tt
    bare-ways n (e ∷ es) = (ap (λ (w : Edge). w.phis) (way-bare f none n e.block), bare-ways n es)

    bare-into : (n : ℕ) (o : Option ℕ) → NoPhisInto (option_map (way t f n) o)
    bare-into n None = tt
    bare-into n (Some m) = ap (λ (w : Edge). w.phis) (way-bare f none n m)

    bare-below : (n : ℕ) (o : Option ℕ) → NoPhisBelow (option_map (λ m. (way t f n m).phis) o)
    bare-below n None = tt
    bare-below n (Some m) = ap (λ (w : Edge). w.phis) (way-bare f none n m)

    bare-item : (b : Block) (i : Instr) (p : Code) → NoPhis p → NoPhis (item_of t f b i ∷ p)
    unfolding item_of
    bare-item b i p h = go (effect_of t i)
      where
        outs : (d : Bool) → NoPhisAlong (cond d (ways_out t f b) [])
        outs true = bare-ways b.number b.successors
        outs false = tt

        by : (e : Effect) (s : Bool) → NoPhis (cond s (Silent (silent_reads t f e i.operands) (silent_writes t f e (is_early_clobber (roles_of t i)) i.operands)) (Counted (rest_of t f e i) (map (λ x. x.0) (values t f e i)) (counted_writes t f e i) (option_map (way t f b.number) (target_of i.operands)) (cond (is_terminator e) (ways_out t f b) [])) ∷ p)
        by e true = h
        by e false = (bare-into b.number (target_of i.operands), outs (is_terminator e), h)

        go : (q : Option Effect) → NoPhis (elim q as (λ o. Item) [ None ↦ Silent [] [] | Some e ↦ effect_item t f b i e ] ∷ p)
        go None = h
        go (Some e) = by e (is_silent e)

    bare-items : (b : Block) (is : List Instr) (p : Code) → NoPhis p → NoPhis (map (item_of t f b) is ++ p)
    bare-items b [] p h = h
    bare-items b (i ∷ is) p h = bare-item b i (map (item_of t f b) is ++ p) (bare-items b is p h)

    bare-blocks : (bs : List Block) → NoPhis (blocks_code (item_of t f) t f bs)
    bare-blocks [] = tt
    bare-blocks (b ∷ bs) = bare-items b b.instrs (block_end t f b bs ∷ blocks_code (item_of t f) t f bs) (bare-below b.number (fallen_into t b bs), bare-ways b.number b.successors, bare-blocks bs)

-- an item of an instruction, renamed, folds onto it

abbrev IsInside : Item → Type 0
IsInside (BlockStart n) = ⊥
IsInside (BlockEnd falls exits) = ⊥
IsInside (Silent reads ws) = Unit {0}
IsInside (Counted r reads ws target exits) = Unit {0}

inside : (t : Target) (f : Function) (b : Block) (i : Instr) → IsInside (item_of t f b i)
unfolding item_of
inside t f b i = go (effect_of t i)
  where
    by : (e : Effect) (s : Bool) → IsInside (cond s (Silent (silent_reads t f e i.operands) (silent_writes t f e (is_early_clobber (roles_of t i)) i.operands)) (Counted (rest_of t f e i) (map (λ x. x.0) (values t f e i)) (counted_writes t f e i) (option_map (way t f b.number) (target_of i.operands)) (cond (is_terminator e) (ways_out t f b) [])))
    by e true = tt
    by e false = tt

    go : (q : Option Effect) → IsInside (elim q as (λ o. Item) [ None ↦ Silent [] [] | Some e ↦ effect_item t f b i e ])
    go None = tt
    go (Some e) = by e (is_silent e)

item-folds : (m : Lane → Lane) (i : Item) (p q : Code) → IsInside i → Folded m p q → Folded m (i ∷ p) (renamed_item m i ∷ q)
item-folds m (BlockStart n) p q h k = absurd h
item-folds m (BlockEnd falls exits) p q h k = absurd h
item-folds m (Silent reads ws) p q h k = silent k
item-folds m (Counted r reads ws target exits) p q h k = counted k

-- a copy whose sides have one image vanishes
sides-vanish : (m : Lane → Lane) (ls ks : List Lane) → same_lanes (map m ls) (map m ks) ≡ true → vanishes m (moved false ls (map FromLane ks)) ≡ true
sides-vanish m [] ks e = refl
sides-vanish m (l ∷ ls) [] e = refl
sides-vanish m (l ∷ ls) (k ∷ ks) e =
    let same : m l ≡ m k = same-is (m l) (m k) (first_of_both (same_lane (m l) (m k)) (same_lanes (map m ls) (map m ks)) e) in
    λ i. (ap (λ x. same_lane (m k) x) same ∙ same-self (m k)) i && sides-vanish m ls ks (second_of_both (same_lane (m l) (m k)) (same_lanes (map m ls) (map m ks)) e) i

keeps-places : (t : Target) (j : Join) → KeepsPlaces (image t j)
keeps-places t j = record { units = λ u. refl; slots = λ s k w. refl }

module _ (t : Target) (f : Function) (j : Join) (a : IsAsked t f j) (low : IsLowered t f) (plain : HasPlainUndefs t f) where
  abbrev g : Function
  g = folded t j f

  abbrev m : Lane → Lane
  m = image t j

  without-phis : (b : Block) (i : Instr) → Member b f.blocks → Member i b.instrs → does is_phi t i ≡ false
  without-phis b i mb mi = (not-phi t i (known t i (low.lowered b i mb mi)).1).0

  none : has_no_phis t f.blocks ≡ true
  none = all-without-phis t f.blocks without-phis

  none-after : has_no_phis t g.blocks ≡ true
  none-after = all-without-phis t g.blocks (λ c x mc mx.
      let b = map-of (folded_block t f j) c f.blocks mc in
      let i = map-of (joined_instr t j) x (filter (keep t f j) b.0.instrs) (subst (λ (d : Block). Member x d.instrs) b.2 mx) in
      let mi = (filter-of (keep t f j) i.0 b.0.instrs i.1).0 in
      ap (does is_phi t) i.2 ∙ without-phis b.0 i.0 b.1 mi)

  way-same : (n k : ℕ) → way t g n k ≡ way t f n k
  way-same n k = way-bare t g none-after n k ∙ sym (way-bare t f none n k)

  ways-same : (n : ℕ) (es : List Successor) → map (λ e. way t g n e.block) es ≡ map (λ e. way t f n e.block) es
  ways-same n [] = refl
  ways-same n (e ∷ es) = λ k. way-same n e.block k ∷ ways-same n es k

  module _ (b : Block) (mb : Member b f.blocks) where
    abbrev c : Block
    c = folded_block t f j b

    -- an instruction that stays
    one-renamed : (i : Instr) → Member i b.instrs → item_of t g c (joined_instr t j i) ≡ renamed_item m (item_of t f b i)
    one-renamed i mi =
        law_of_renaming t f g m (joined_operand t j) (keeps-places t j) b c (λ n. way-same b.number n) (ways-same b.number b.successors) i
        (not-phi t i (known t i (low.lowered b i mb mi)).1).1 (renames-all t f j a low plain b i mb mi)

    -- one that goes

    module _ (i : Instr) (mi : Member i b.instrs) (z : IsGone t f j i) where
      there : (o : RegOp) → Member o (z.d ∷ z.s ∷ []) → Member o (registers i.operands)
      there o k = subst (λ os. Member o (registers os)) (sym z.operands) k

      fits : (is_definition z.d && is_use z.s) ≡ true
      fits =
          let y = met t f i effects.Copy z.copies (low.rules.shaped b i mb mi).operands in
          subst (λ os. copy_fits os ≡ true) z.operands y.3

      plain-source : z.s.undef ≡ false
      plain-source = go z.s.def z.s.implicit z.s.undef (second_of_both (is_definition z.d) (is_use z.s) fits) (z.d.def) (z.d.undef) uses
        where
          uses : ((not z.d.def && z.d.undef) || ((not z.s.def && z.s.undef) || false)) ≡ false
          uses = sym (λ k. passes is_copy (z.copies k) && list_any is_undef_use (registers (z.operands k))) ∙ (plain b i mb mi).1

          go : (d p u : Bool) → (not d && not p) ≡ true → (x y : Bool) → ((not x && y) || ((not d && u) || false)) ≡ false → u ≡ false
          go true p u h x y e = absurd (cc)
          go false p false h x y e = refl
          go false p true h true y e = absurd (cc)
          go false p true h false true e = absurd (cc)
          go false p true h false false e = absurd (cc)

      writes : copied t f i.operands ≡ moved false (operand_lanes t f z.d) (map FromLane (operand_lanes t f z.s))
      writes =
          ap (copied t f) z.operands
          ∙ ((λ k. moved false (operand_lanes t f z.d) (map (cond (plain-source k) (λ l. Undef) FromLane) (operand_lanes t f z.s)) ++ undefined false (cond ((named t f j a low plain b i mb mi z.d (there z.d first)).plain k) (whole_lanes t f z.d.loc) []))
          ∙ append-none (moved false (operand_lanes t f z.d) (map FromLane (operand_lanes t f z.s))))
        where
          append-none : (ws : Writes) → ws ++ [] ≡ ws
          append-none [] = refl
          append-none (w ∷ ws) = ap (λ vs. w ∷ vs) (append-none ws)

      is-copied : item_of t f b i ≡ Silent [] (copied t f i.operands)
      unfolding item_of
      is-copied = ap (λ q. elim q as (λ o. Item) [ None ↦ Silent [] [] | Some x ↦ effect_item t f b i x ]) z.copies

      united : same_lanes (map m (operand_lanes t f z.d)) (map m (operand_lanes t f z.s)) ≡ true
      united = second_of_both (not (same_lanes (operand_lanes t f z.d) (operand_lanes t f z.s))) (same_lanes (map m (operand_lanes t f z.d)) (map m (operand_lanes t f z.s))) z.unites

      one-deleted : (p q : Code) → Folded m p q → Folded m (item_of t f b i ∷ p) q
      one-deleted p q k =
          subst (λ x. Folded m (x ∷ p) q) (sym (is-copied ∙ ap (Silent []) writes))
          (deleted (sides-vanish m (operand_lanes t f z.d) (operand_lanes t f z.s) united) k)

    instrs-fold : (is : List Instr) → ((i : Instr) → Member i is → Member i b.instrs) → (p q : Code) → Folded m p q
        → Folded m (map (item_of t f b) is ++ p) (map (item_of t g c) (map (joined_instr t j) (filter (keep t f j) is)) ++ q)
    instrs-fold [] w p q k = k
    instrs-fold (i ∷ is) w p q k = go (becomes_identity t f j i) refl (instrs-fold is (λ x n. w x (later n)) p q k)
      where
        go : (u : Bool) → becomes_identity t f j i ≡ u → Folded m (map (item_of t f b) is ++ p) (map (item_of t g c) (map (joined_instr t j) (filter (keep t f j) is)) ++ q)
            → Folded m (item_of t f b i ∷ (map (item_of t f b) is ++ p)) (map (item_of t g c) (map (joined_instr t j) (cond (not u) (i ∷ filter (keep t f j) is) (filter (keep t f j) is))) ++ q)
        go true e rest = one-deleted i (w i first) (gone-is t f j i e) (map (item_of t f b) is ++ p) (map (item_of t g c) (map (joined_instr t j) (filter (keep t f j) is)) ++ q) rest
        go false e rest =
            subst (λ x. Folded m (item_of t f b i ∷ (map (item_of t f b) is ++ p)) (x ∷ (map (item_of t g c) (map (joined_instr t j) (filter (keep t f j) is)) ++ q))) (sym (one-renamed i (w i first)))
            (item-folds m (item_of t f b i) (map (item_of t f b) is ++ p) (map (item_of t g c) (map (joined_instr t j) (filter (keep t f j) is)) ++ q) (inside t f b i) rest)

    end-same : (after : List Block) → block_end t g c (map (folded_block t f j) after) ≡ block_end t f b after
    end-same after =
        λ i. BlockEnd (option_map (λ n. (way-same b.number n i).phis) (fallen-same t f j b (λ k x e. low.terminators b k x mb e) after (map (folded_block t f j) after) (first-same t f j after) i)) (ways-same b.number b.successors i)

  blocks-fold : (bs : List Block) → ((b : Block) → Member b bs → Member b f.blocks) → Folded m (blocks_code (item_of t f) t f bs) (blocks_code (item_of t g) t g (map (folded_block t f j) bs))
  blocks-fold [] w = done
  blocks-fold (b ∷ bs) w =
      start (instrs-fold b (w b first) b.instrs (λ i n. n) (block_end t f b bs ∷ blocks_code (item_of t f) t f bs) (block_end t g (folded_block t f j b) (map (folded_block t f j) bs) ∷ blocks_code (item_of t g) t g (map (folded_block t f j) bs))
      (subst (λ x. Folded m (block_end t f b bs ∷ blocks_code (item_of t f) t f bs) (x ∷ blocks_code (item_of t g) t g (map (folded_block t f j) bs))) (sym (end-same b (w b first) bs))
      (end (blocks-fold bs (λ d n. w d (later n))))))

  code-folds : Folded m (code_of t f) (code_of t g)
  unfolding code_of
  code-folds = blocks-fold f.blocks (λ b n. n)

  code-bare : NoPhis (code_of t f)
  unfolding code_of
  code-bare = bare-blocks t f none f.blocks

  given-same : (u : ℕ) → given_of t f u ≡ given_of t g u
  given-same u = ap (λ b. cond b (Some (unit_width t.units (unit_number u))) None) (go f.blocks)
    where
      go : (bs : List Block) → is_given t bs u ≡ is_given t (map (folded_block t f j) bs) u
      go [] = refl
      go (b ∷ bs) = refl

  starts : (env : Environment) (l : Lane) → start_state env (given_of t f) l ≡ start_state env (given_of t g) (m l)
  starts env (VirtualLane v k) = go (nat_eq v j.gone)
    where
      go : (u : Bool) → None ≡ start_state env (given_of t g) (cond u (VirtualLane j.keep (lane_within t j.index k)) (VirtualLane v k))
      go true = refl
      go false = refl
  starts env (UnitLane u) = ap (entry_lane env u) (given-same u)
  starts env (SlotLane s k w) = refl

  fixes : (l : Lane) → is_reserved t l ≡ true → m l ≡ l
  fixes (VirtualLane v k) e = absurd (cc)
  fixes (UnitLane u) e = refl
  fixes (SlotLane s k w) e = absurd (cc)

  only : (l : Lane) → is_reserved t (m l) ≡ true → m l ≡ l
  only (VirtualLane v k) e = go (nat_eq v j.gone) e
    where
      go : (u : Bool) → is_reserved t (cond u (VirtualLane j.keep (lane_within t j.index k)) (VirtualLane v k)) ≡ true → m (VirtualLane v k) ≡ VirtualLane v k
      go true e = absurd (cc)
      go false e = absurd (cc)
  only (UnitLane u) e = refl
  only (SlotLane s k w) e = refl

  pub folds : IsQuiet t f j → Folds (is_reserved t) m (meaning_of t f) (meaning_of t g)
  unfolding meaning_of
  folds quiet =
      let same = points_are_code t f none in
      record {
        fits = record { starts = λ env l k. starts env l; laid_out = subst (λ c. LaidOut c c) same (points-laid t f low); no_phis = code-bare };
        fixes = fixes;
        only = only;
        quiet = subst (λ c. Quiet (is_reserved t) c m c) same quiet;
        folded = code-folds;
      }
