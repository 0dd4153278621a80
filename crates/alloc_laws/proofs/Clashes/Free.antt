-- A lane that no owner has as its number has no points.
use Rattle.std.proofs.Common.{◌≡◌, ◌⊎◌, ℕ, Bool, true, false, cond, List, [], ◌∷◌, ◌++◌, Option, None, Some, map, inl, inr, refl, sym, ap, ◌∙◌, subst, eqb-true}
use Rattle.std.specs.Prelude.{nat_eq, slice_get, filter_map, flat_map, option_and_then, option_map}
use Rattle.target_base.specs.declared.types.Target.{Target}
use Rattle.mir_meaning.specs.declared.writing.LaneDef.{LaneDef}
use Rattle.meaning.specs.Live.{Among as Member, here as first, there as later}
use Rattle.mir_func.specs.declared.func.Block.{Block}
use Rattle.mir_func.specs.declared.func.Instr.{Instr}
use Rattle.mir_func.specs.Value.{Function}
use Rattle.mir_meaning.specs.Rules.{V8}
use Rattle.instr_effects.specs.declared.acts.Act.{Act}
use Rattle.instr_effects.specs.declared.owner.Owner.{Owner}
use Rattle.instr_effects.specs.Acts.{acts_of, read_owners, use_owners, entered_reads, entered_writes}
use Rattle.instr_effects.specs.Ends.{end_uses}
use Rattle.instr_effects.specs.Numbered.{number_in}
use Rattle.instr_effects.specs.Steps.{Numbering, writing, act_writing, act_writings, is_unnumbered, act_reading, act_readings, phi_read_of}
use Rattle.instr_effects.proofs.Members.{member-none, in-either, flat-of, map-of}
use Rattle.live_laws.specs.Effects.Coded.{KeepsRules}
use Rattle.live_laws.proofs.Effects.Blocks.{slice-map, filtered-of}
use Rattle.live_lanes.specs.declared.ask.extent.Extent.{Extent}
use Rattle.live_lanes.specs.declared.table.Table.{Table}
use Rattle.mir_meaning.specs.Paths as paths
use Rattle.mir_meaning.specs.Paths.{Among, Step, Body, Code, steps_of, last_of, has, Use, Unused, Certain, Into, use_of, move_of, writing_of, is_written, is_some_number}
use Rattle.live_lanes.specs.Graph.{Causes, is_live, Founded, by_reading, by_move, by_exit, by_end, by_phi}
use Rattle.live_lanes.specs.Entered.{Start as Beginning, start_of, starts, readings_until, rows_seen, causes}
use Rattle.live_lanes.specs.Ends.{Counts, reads, moves, leaves, goes, phi}
use Rattle.live_lanes.specs.Coded.{entries, lanes_at, last_at}
use Rattle.live_lanes.specs.Entering.{EnteredStep}
use Rattle.live_lanes.specs.Doing.{doing_of, lane_code, IsComputed}
use Rattle.live_lanes.specs.Ordered.{place_of}
use Rattle.live_lanes.specs.declared.row.PieceEnd.{PieceEnd}
use Rattle.live_lanes.specs.declared.row.PieceEnd.TheVariants as ends
use Rattle.live_lanes.specs.Reach.{is_never}
use Rattle.live_lanes.specs.Ends.{row_end}
use Rattle.live_lanes.proofs.Basics.{none-among, among-append}
use Rattle.live_lanes.proofs.Numbered.{among-cases}
use Rattle.point_laws.proofs.Covered.{no-body, the-body, some_steps}
use Rattle.live_laws.proofs.Exact.Inside.{all}
use Rattle.point_laws.proofs.Pieces.{IsPiece, at_start, at_writing}

pub listed : {X : Type 0} (x : X) (xs : List X) → Among x xs → Member x xs
listed x [] a = absurd (none-among x a)
listed x (y ∷ xs) a = go (among-cases x y xs a) (λ b. listed x xs b)
  where
    go : (x ≡ y) ⊎ Among x xs → (Among x xs → Member x xs) → Member x (y ∷ xs)
    go (inl e) ih = subst (λ z. Member x (z ∷ xs)) e first
    go (inr b) ih = later (ih b)

abbrev some_last : Option Body → List ℕ
some_last o = elim o [ None ↦ [] | Some x ↦ x.last ]

-- a piece that begins with a writing begins with a step that writes the lane
written-by : (l : ℕ) (ss : List Step) (k : ℕ) (st : Beginning) → slice_get (starts l ss) k ≡ Some st → (s : Step) × Among s ss × (w : LaneDef) × (writing_of l s.writes ≡ Some w)
written-by l [] k st e = absurd (cc)
written-by l (s ∷ ss) k st e = go (writing_of l s.writes) refl k e (λ j h. written-by l ss j st h)
  where
    Found : List Step → Type 0
    Found xs = (x : Step) × Among x xs × (w : LaneDef) × (writing_of l x.writes ≡ Some w)

    more : Found ss → Found (s ∷ ss)
    more z = (z.0, paths.there z.1, z.2, z.3)

    go : (o : Option LaneDef) → writing_of l s.writes ≡ o → (k : ℕ) → slice_get (elim o [ None ↦ starts l ss | Some w ↦ record { start = s.id; early = w.early; from = w.from; readings = readings_until l ss } ∷ starts l ss ]) k ≡ Some st → ((j : ℕ) → slice_get (starts l ss) j ≡ Some st → Found ss) → Found (s ∷ ss)
    go None f k h ih = more (ih k h)
    go (Some w) f k h ih = (s, paths.here, w, f)

-- an owner has the number
abbrev pub HasOwner : Numbering → ℕ → Type 0
HasOwner num l = (o : Owner) × (num o ≡ Some l)

pub has-of : (l : ℕ) (xs : List ℕ) → has l xs ≡ true → Member l xs
has-of l [] e = absurd (cc)
has-of l (x ∷ xs) e = go (nat_eq x l) refl e (has-of l xs)
  where
    go : (t : Bool) → nat_eq x l ≡ t → cond t true (has l xs) ≡ true → (has l xs ≡ true → Member l xs) → Member l (x ∷ xs)
    go true f g ih = subst (λ y. Member l (y ∷ xs)) (sym (eqb-true x l f)) first
    go false f g ih = later (ih g)

some-of : (l : ℕ) (q : Option ℕ) → is_some_number l q ≡ true → q ≡ Some l
some-of l None e = absurd (cc)
some-of l (Some x) e = ap Some (eqb-true x l e)

move-of : (l a : ℕ) (ws : List LaneDef) → move_of l ws ≡ Into a → (w : LaneDef) × Member w ws × (w.from ≡ Some l)
move-of l a [] e = absurd (cc)
move-of l a (w ∷ ws) e = go (is_some_number l w.from) refl e (move-of l a ws)
  where
    go : (t : Bool) → is_some_number l w.from ≡ t → cond t (Into w.lane) (move_of l ws) ≡ Into a → (move_of l ws ≡ Into a → (x : LaneDef) × Member x ws × (x.from ≡ Some l)) → (x : LaneDef) × Member x (w ∷ ws) × (x.from ≡ Some l)
    go true f g ih = (w, first, some-of l w.from f)
    go false f g ih = let z = ih g in (z.0, later z.1, z.2)

written-of : (l : ℕ) (ws : List LaneDef) (x : LaneDef) → writing_of l ws ≡ Some x → (w : LaneDef) × Member w ws × (w.lane ≡ l)
written-of l [] x e = absurd (cc)
written-of l (w ∷ ws) x e = go (nat_eq w.lane l) refl e (written-of l ws x)
  where
    go : (t : Bool) → nat_eq w.lane l ≡ t → cond t (Some w) (writing_of l ws) ≡ Some x → (writing_of l ws ≡ Some x → (y : LaneDef) × Member y ws × (y.lane ≡ l)) → (y : LaneDef) × Member y (w ∷ ws) × (y.lane ≡ l)
    go true f g ih = (w, first, eqb-true w.lane l f)
    go false f g ih = let z = ih g in (z.0, later z.1, z.2)

then-of : {X Y : Type 0} (g : X → Option Y) (q : Option X) (y : Y) → option_and_then g q ≡ Some y → (x : X) × (g x ≡ Some y)
then-of g None y e = absurd (cc)
then-of g (Some x) y e = (x, e)

module _ (num : Numbering) (l : ℕ) where
  numbers-owned : (os : List Owner) → Member l (filter_map num os) → HasOwner num l
  numbers-owned os m = let z = filtered-of num l os m in (z.0, z.2)

  reading-owned : (a : Act) (q : Bool) → cond q (option_and_then num a.from) None ≡ Some l → HasOwner num l
  reading-owned a true e = then-of num a.from l e
  reading-owned a false e = absurd (cc)

  readings-owned : (acts : List Act) → Member l (act_readings num acts) → HasOwner num l
  readings-owned acts m = let z = filtered-of (act_reading num) l acts m in reading-owned z.0 (is_unnumbered (num z.0.lane)) z.2

  -- a writing is of a lane with a number, and so is what it moves
  writing-of : (acts : List Act) (w : LaneDef) → Member w (act_writings num acts) → (a : Act) × (num a.lane ≡ Some w.lane) × (w.from ≡ option_and_then num a.from)
  writing-of acts w m = let z = filtered-of (act_writing num) w acts m in go z.0 (num z.0.lane) refl z.2
    where
      go : (a : Act) (q : Option ℕ) → num a.lane ≡ q → elim q [ None ↦ None | Some n ↦ Some (writing num a n) ] ≡ Some w → (b : Act) × (num b.lane ≡ Some w.lane) × (w.from ≡ option_and_then num b.from)
      go a None f g = absurd (cc)
      go a (Some n) f g = let same : writing num a n ≡ w = cc in (a, f ∙ ap (λ x. Some x.lane) same, sym (ap (λ x. x.from) same))

  lane-owned : (acts : List Act) (w : LaneDef) → Member w (act_writings num acts) → w.lane ≡ l → HasOwner num l
  lane-owned acts w m e = let z = writing-of acts w m in (z.0.lane, z.1 ∙ ap Some e)

  from-owned : (acts : List Act) (w : LaneDef) → Member w (act_writings num acts) → w.from ≡ Some l → HasOwner num l
  from-owned acts w m e = let z = writing-of acts w m in then-of num z.0.from l (sym z.2 ∙ e)

  module _ (t : Target) (f : Function) where
    abbrev doing : Instr → Step
    doing i = (doing_of t f num i).0

    use-owned : (i : Instr) → (use_of l (doing i) ≡ Unused → ⊥) → HasOwner num l
    use-owned i h = go (has l (doing i).reads) refl (move_of l (doing i).writes) refl (λ e. h e)
      where
        by-read : Member l (filter_map num (read_owners (entered_reads t f i)) ++ act_readings num (acts_of (entered_writes t f i))) → HasOwner num l
        by-read m = from (in-either l (filter_map num (read_owners (entered_reads t f i))) (act_readings num (acts_of (entered_writes t f i))) m)
          where
            from : Member l (filter_map num (read_owners (entered_reads t f i))) ⊎ Member l (act_readings num (acts_of (entered_writes t f i))) → HasOwner num l
            from (inl j) = numbers-owned (read_owners (entered_reads t f i)) j
            from (inr j) = readings-owned (acts_of (entered_writes t f i)) j

        never : (u : Use) → move_of l (doing i).writes ≡ u → (a : ℕ) → u ≡ Into a → HasOwner num l
        never u e a g = let z = move-of l a (doing i).writes (e ∙ g) in from-owned (acts_of (entered_writes t f i)) z.0 z.1 z.2

        no-certain : (ws : List LaneDef) → move_of l ws ≡ Certain → ⊥
        no-certain [] e = cc
        no-certain (w ∷ ws) e = past (is_some_number l w.from) e (no-certain ws)
          where
            past : (q : Bool) → cond q (Into w.lane) (move_of l ws) ≡ Certain → (move_of l ws ≡ Certain → ⊥) → ⊥
            past true g ih = cc
            past false g ih = ih g

        go : (q : Bool) → has l (doing i).reads ≡ q → (u : Use) → move_of l (doing i).writes ≡ u → (cond q Certain (move_of l (doing i).writes) ≡ Unused → ⊥) → HasOwner num l
        go true e u g n = by-read (has-of l (doing i).reads e)
        go false e Unused g n = absurd (n g)
        go false e Certain g n = absurd (no-certain (doing i).writes g)
        go false e (Into a) g n = never (Into a) g a refl

    write-owned : (i : Instr) (x : LaneDef) → writing_of l (doing i).writes ≡ Some x → HasOwner num l
    write-owned i x e = let z = written-of l (doing i).writes x e in lane-owned (acts_of (entered_writes t f i)) z.0 z.1 z.2

    -- lanes that are read at the ends of blocks
    at-place : (q : Option ℕ) (b : ℕ) (xs : List ℕ) → Member l (elim q [ None ↦ [] | Some p ↦ cond (nat_eq p b) xs [] ]) → Member l xs
    at-place None b xs m = absurd (member-none l m)
    at-place (Some p) b xs m = go (nat_eq p b) m
      where
        go : (u : Bool) → Member l (cond u xs []) → Member l xs
        go true j = j
        go false j = absurd (member-none l j)

    end-owned : (place : ℕ → Option ℕ) (b : ℕ) (i : Instr) → Member l (flat_map (lanes_at place b) (map (phi_read_of t f num) (end_uses t i))) → HasOwner num l
    end-owned place b i m =
        let r = flat-of (lanes_at place b) l (map (phi_read_of t f num) (end_uses t i)) m in
        let y = map-of (phi_read_of t f num) r.0 (end_uses t i) r.1 in
        let there = at-place (place r.0.0) b r.0.1 r.2 in
        numbers-owned (use_owners t f y.0.0) (subst (Member l) (ap (λ z. z.1) y.2) there)

    block-owned : (place : ℕ → Option ℕ) (b : ℕ) (is : List Instr) (es : List EnteredStep) → es ≡ map (doing_of t f num) is → Member l (flat_map (λ e. flat_map (lanes_at place b) e.1) es) → HasOwner num l
    block-owned place b is es same m =
        let e = flat-of (λ e. flat_map (lanes_at place b) e.1) l es m in
        let i = map-of (doing_of t f num) e.0 is (subst (Member e.0) same e.1) in
        end-owned place b i.0 (subst (λ d. Member l (flat_map (lanes_at place b) d.1)) i.2 e.2)

    ends-owned : (place : ℕ → Option ℕ) (b : ℕ) (bs : List Block) → Member l (last_at place (entries (doing_of t f num) bs) b) → HasOwner num l
    ends-owned place b bs m =
        let es = flat-of (flat_map (λ e. flat_map (lanes_at place b) e.1)) l (entries (doing_of t f num) bs) m in
        let c = map-of (λ (d : Block). map (doing_of t f num) d.instrs) es.0 bs es.1 in
        block-owned place b c.0.instrs es.0 c.2 es.2

module _ (t : Target) (f : Function) (num : Numbering) where
  abbrev code : Code
  code = lane_code t f num

  abbrev place : ℕ → Option ℕ
  place n = place_of n f.blocks

  -- each step is that of an instruction
  step-of : (p : ℕ) (s : Step) → Among s (steps_of code p) → (i : Instr) × ((doing_of t f num i).0 ≡ s)
  step-of p s a = go (slice_get f.blocks p) refl
    where
      go : (o : Option Block) → slice_get f.blocks p ≡ o → (i : Instr) × ((doing_of t f num i).0 ≡ s)
      go None e = absurd (none-among s (subst (Among s) (ap some_steps (no-body (doing_of t f num) place f.blocks 0 f.blocks p e)) a))
      go (Some b) e =
          let z = map-of (λ (i : Instr). (doing_of t f num i).0) s b.instrs (listed s (map (λ (i : Instr). (doing_of t f num i).0) b.instrs) ((subst (Among s) (ap some_steps (the-body (doing_of t f num) place f.blocks 0 f.blocks p b e).1) a))) in
          (z.0, sym z.2)

  module _ (l : ℕ) (free : HasOwner num l → ⊥) where
    no-use : (p : ℕ) (before : List Step) (s : Step) (rest : List Step) → steps_of code p ≡ before ++ s ∷ rest → (use_of l s ≡ Unused → ⊥) → ⊥
    no-use p before s rest split h =
        let i = step-of p s (subst (Among s) (sym split) (among-append s before rest)) in
        free (use-owned num l t f i.0 (λ e. h (ap (use_of l) (sym i.1) ∙ e)))

    no-certain-use : (p : ℕ) (before : List Step) (s : Step) (rest : List Step) → steps_of code p ≡ before ++ s ∷ rest → use_of l s ≡ Certain → ⊥
    no-certain-use p before s rest split e = no-use p before s rest split (λ g. let z : Unused ≡ Certain = sym g ∙ e in cc)

    no-move : (p a : ℕ) (before : List Step) (s : Step) (rest : List Step) → steps_of code p ≡ before ++ s ∷ rest → use_of l s ≡ Into a → ⊥
    no-move p a before s rest split e = no-use p before s rest split (λ g. let z : Unused ≡ Into a = sym g ∙ e in cc)

    no-end : (p : ℕ) → Among l (last_of code p) → ⊥
    no-end p a = go (slice_get f.blocks p) refl
      where
        go : (o : Option Block) → slice_get f.blocks p ≡ o → ⊥
        go None e = none-among l (subst (Among l) (ap some_last (no-body (doing_of t f num) place f.blocks 0 f.blocks p e)) a)
        go (Some b) e =
            let z = the-body (doing_of t f num) place f.blocks 0 f.blocks p b e in
            free (ends-owned num l t f place z.0 f.blocks (listed l (last_at place (entries (doing_of t f num) f.blocks) z.0) (subst (Among l) (ap some_last z.1) a)))

  -- nothing makes it live
  not-founded : {why : Causes} {l b n : ℕ} → (HasOwner num l → ⊥) → Founded code why l b n → ⊥
  not-founded {why} {l} {b} free (by_reading before s rest split cause used) = no-certain-use l free b before s rest split used
  not-founded {why} {l} {b} free (by_move {a = a} before s rest split cause used written more) = no-move l free b a before s rest split used
  not-founded free (by_exit before s rest split cause out onward more) = not-founded free more
  not-founded free (by_end cause onward more) = not-founded free more
  not-founded {why} {l} {b} free (by_phi cause listing) = no-end l free b listing

module _ (t : Target) (f : Function) (x : Table) (computed : IsComputed t f x) (rules : KeepsRules t f) (last : (b : Block) (j : ℕ) (i : Instr) → Member b f.blocks → slice_get b.instrs j ≡ Some i → V8 t b j i ≡ true) (l : ℕ) (free : HasOwner (number_in x.lanes) l → ⊥) where
  abbrev num : Numbering
  num = number_in x.lanes

  abbrev why : Causes
  why = causes x.rows.rows.items

  dead : (b n : ℕ) → is_live (why l b n) ≡ true → ⊥
  dead b n h = not-founded t f num free ((computed.grown (all t f x computed rules last)).founded l b n h)

  counted : (p k : ℕ) (e : PieceEnd) → Counts (lane_code t f num) why l p k e → ⊥
  counted p k e (reads before s rest split piece used) = no-certain-use t f num l free p before s rest split used
  counted p k e (moves a before s rest split piece used live) = no-move t f num l free p a before s rest split used
  counted p k e (leaves y before s rest split piece out onward live) = dead y 0 live
  counted p k e (goes y piece onward live) = dead y 0 live
  counted p k e (phi piece listing) = no-end t f num l free p listing

  -- so it has no pieces
  pub no-pieces : (p : ℕ) (e : Extent) → IsPiece (rows_seen x.rows.rows.items l p) e → ⊥
  no-pieces p e (at_start never same) = go ((computed.ended (all t f x computed rules last)) l p 0).counts
    where
      go : (row_end x.rows.rows.items l p 0 ≡ ends.Never) ⊎ Counts (lane_code t f num) why l p 0 (row_end x.rows.rows.items l p 0) → ⊥
      go (inl q) = let z : true ≡ false = sym (ap is_never q) ∙ never in cc
      go (inr c) = counted p 0 (row_end x.rows.rows.items l p 0) c
  no-pieces p e (at_writing k s there same) =
      let entered = ap (λ h. h.segments) ((computed.table (all t f x computed rules last)).entered l p) in
      let starting : slice_get (map start_of (rows_seen x.rows.rows.items l p).segments) k ≡ Some (start_of s) = slice-map start_of (rows_seen x.rows.rows.items l p).segments k ∙ ap (option_map start_of) there in
      let z = written-by l (steps_of (lane_code t f num) p) k (start_of s) (subst (λ ss. slice_get ss k ≡ Some (start_of s)) entered starting) in
      let i = step-of t f num p z.0 z.1 in
      free (write-owned num l t f i.0 z.2 (ap (λ y. writing_of l y.writes) i.1 ∙ z.3))
