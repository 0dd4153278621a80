-- A computed table tells of each instruction which lanes it writes, which of these early, and which it reads.
use Rattle.std.proofs.Common.{◌≡◌, ◌⊎◌, ℕ, suc, Bool, true, false, List, [], ◌∷◌, ◌++◌, Option, Some, None, map, take, drop, inl, inr, refl, sym, ap, ◌∙◌, subst}
use Rattle.std.specs.Prelude.{◌↔◌, find, is_some, nat_eq, option_map, slice_get, slice_index}
use Rattle.target_base.specs.declared.types.Target.{Target}
use Rattle.meaning.specs.declared.types.Lane.{Lane}
use Rattle.meaning.specs.Code.{Item, Code as Places}
use Rattle.meaning.specs.Live.{Among as Member, is_slot, Writing, WritingEarly}
use Rattle.mir_func.specs.declared.func.Block.{Block}
use Rattle.mir_func.specs.declared.func.Instr.{Instr}
use Rattle.mir_func.specs.Value.{Function}
use Rattle.mir_meaning.specs.Codes.{block_end, blocks_code}
use Rattle.mir_meaning.specs.Points.{AtFirst, from_instr, point_item, points_of}
use Rattle.mir_meaning.specs.Registers.{is_reserved}
use Rattle.mir_meaning.specs.Rules.{V8}
use Rattle.mir_meaning.specs.declared.writing.LaneDef.{LaneDef}
use Rattle.mir_meaning.specs.Paths.{Among, Step, Code, Use, Unused, Certain, Into, is_present, is_written, last_of, has, steps_of, use_of, writing_of, Live}
use Rattle.mir_meaning.specs.Paths as law
use Rattle.mir_meaning.specs.Stands.{At}
use Rattle.instr_effects.specs.Numbered.{number_in}
use Rattle.instr_effects.specs.Steps.{Numbering}
use Rattle.instr_effects.specs.Stepping.{tag_of}
use Rattle.live_lanes.specs.declared.table.Table.{Table}
use Rattle.live_lanes.specs.Doing.{IsComputed}
use Rattle.live_lanes.specs.Entered.{IsTableOf, Rises, Start, causes, rows_seen, shape, start_of, starts}
use Rattle.live_lanes.specs.Graph.{IsGrown, is_live, writes_in}
use Rattle.live_lanes.specs.Lasting.{piece_of, readings_of, shapes}
use Rattle.live_lanes.specs.Laws.{AllMatched}
use Rattle.live_lanes.specs.Ordered.{AreRising}
use Rattle.live_lanes.specs.Table.{Begun, entry_rank, exit_rank, piece_at, readings_in}
use Rattle.live_lanes.specs.Touching.{ReadsInOrder, begun_at, begun_by, is_counted, is_early, reading_ids, reads_lane, reads_seen}
use Rattle.live_lanes.proofs.Grown.{writing-law}
use Rattle.live_lanes.proofs.Lasting.{piece-shape}
use Rattle.live_lanes.proofs.Numbered.{entry-piece, exit-piece}
use Rattle.live_laws.specs.Acts.{ActsLaw, AtInstr, Reading}
use Rattle.live_laws.specs.Effects.Shaped.{is_proper}
use Rattle.live_laws.specs.Effects.Coded.{instr_step, numbered_code, number_at, spot_in, IsNumbered, KeepsRules}
use Rattle.live_laws.specs.Effects.Coded.{is_early as step_early}
use Rattle.live_laws.proofs.Acts.Found.{begun_here, cut, first-reading, first-start, found-start, readings-same, rise-piece, used_here}
use Rattle.live_laws.proofs.Acts.Read.{counts, early, read-number, writes, written-number}
use Rattle.live_laws.proofs.Effects.Whole.{points-are, steps-at}
use Rattle.live_laws.proofs.Exact.Coded.{code-same}
use Rattle.live_laws.proofs.Exact.Inside.{all, home, inside-law, numbered, quiet, s, split}
use Rattle.live_laws.proofs.Exact.Same.{same-back, same-forth}
use Rattle.live_laws.proofs.Effects.Numbered.{drop-map}
use Rattle.live_laws.proofs.Exact.Spots.{Spot, first-is, inside, rest}

is-some-map : {X Y : Type 0} (g : X → Y) (q : Option X) → is_some (option_map g q) ≡ is_some q
is-some-map g None = refl
is-some-map g (Some x) = refl

abbrev start_early : Option Start → Bool
start_early q = elim q [ None ↦ false | Some s ↦ s.early ]

early-map : (q : Option Begun) → start_early (option_map start_of q) ≡ is_early q
early-map None = refl
early-map (Some s) = refl

present-here : (l : ℕ) (on : List Step) (id : ℕ) (o : Option LaneDef) → is_some (begun_here l on id o) ≡ is_present o
present-here l on id None = refl
present-here l on id (Some w) = refl

early-here : (l : ℕ) (on : List Step) (id : ℕ) (o : Option LaneDef) → start_early (begun_here l on id o) ≡ elim o [ None ↦ false | Some w ↦ w.early ]
early-here l on id None = refl
early-here l on id (Some w) = refl

of-same : {P : Type 0} (p q : Bool) → p ≡ q → P ↔ (q ≡ true) → (p ≡ true) ↔ P
of-same p q e f = ((λ h. f.1 (sym e ∙ h)), (λ h. e ∙ f.0 h))

module _ (t : Target) (f : Function) (x : Table) (computed : IsComputed t f x) (rules : KeepsRules t f) (last : (b : Block) (j : ℕ) (i : Instr) → Member b f.blocks → slice_get b.instrs j ≡ Some i → V8 t b j i ≡ true) where
  abbrev num : Numbering
  num = number_in x.lanes

  abbrev code : Code
  code = numbered_code t f num

  abbrev C : Places
  C = blocks_code (point_item t f) t f f.blocks

  stands : IsTableOf code x.order.slots x.flow.items x.rows.rows.items
  stands = subst (λ c. IsTableOf c x.order.slots x.flow.items x.rows.rows.items) (code-same t f num rules) (computed.table (all t f x computed rules last))

  grown : IsGrown code (causes x.rows.rows.items)
  grown = subst (λ c. IsGrown c (causes x.rows.rows.items)) (code-same t f num rules) (computed.grown (all t f x computed rules last))

  each-matched : AllMatched code
  each-matched = stands.matched

  shaped : (n p : ℕ) → shape (rows_seen x.rows.rows.items n p) ≡ cut (has n (last_of code p)) n (steps_of code p)
  shaped n p = stands.entered n p

  pieces : (n p m : ℕ) → readings_in (rows_seen x.rows.rows.items n p) m ≡ readings_of (cut (has n (last_of code p)) n (steps_of code p)) m
  pieces n p m = readings-same (rows_seen x.rows.rows.items n p) (rows_seen x.rows.rows.items n p).is_read_last m ∙ ap (λ h. readings_of h m) (shaped n p)

  in-order : ReadsInOrder x
  in-order l b n = subst (λ rs. AreRising x.order.slots 0 (reading_ids rs)) (sym (pieces l b n)) (rise-piece x.order.slots (has l (last_of code b)) l (steps_of code b) (stands.numbered b) n)

  module _ (id p k : ℕ) (at : spot_in id f.blocks ≡ Some (p, k)) where
    abbrev block : Block
    block = (s t f x computed rules last id p k at).block

    abbrev instr : Instr
    instr = (s t f x computed rules last id p k at).instr

    abbrev step : Step
    step = instr_step t f num instr

    abbrev before : List Step
    before = take k (steps_of code p)

    abbrev onward : List Step
    onward = drop (suc k) (steps_of code p)

    named : step.id ≡ id
    named = (s t f x computed rules last id p k at).named

    whole : steps_of code p ≡ before ++ step ∷ onward
    whole = split t f x computed rules last id p k at

    rises : Rises x.order.slots 0 (before ++ step ∷ onward)
    rises = subst (Rises x.order.slots 0) whole (stands.numbered p)

    place-of : slice_index x.order.block_of.items id ≡ p
    place-of = home t f x computed rules last id p k at

    module _ (n : ℕ) where
      begun-is : option_map start_of (begun_at x (Some n) id) ≡ begun_here n onward step.id (writing_of n step.writes)
      begun-is =
          ap (λ b. option_map start_of (begun_by id (rows_seen x.rows.rows.items n b).segments)) place-of
          ∙ found-start id (rows_seen x.rows.rows.items n p).segments
          ∙ ap (λ h. find (λ z. nat_eq z.start id) h.segments) (shaped n p)
          ∙ ap (λ ss. find (λ z. nat_eq z.start id) (starts n ss)) whole
          ∙ first-start x.order.slots n id step onward named 0 before rises

      written-is : is_some (begun_at x (Some n) id) ≡ is_written n step
      written-is = sym (is-some-map start_of (begun_at x (Some n) id)) ∙ ap is_some begun-is ∙ present-here n onward step.id (writing_of n step.writes)

      early-is : is_early (begun_at x (Some n) id) ≡ step_early n step
      early-is = sym (early-map (begun_at x (Some n) id)) ∙ ap start_early begun-is ∙ early-here n onward step.id (writing_of n step.writes)

      entry-in : piece_at x.order.slots (entry_rank x.order.slots id) (rows_seen x.rows.rows.items n p).segments ≡ writes_in n before
      entry-in =
          subst (λ i. piece_at x.order.slots (entry_rank x.order.slots i) (rows_seen x.rows.rows.items n p).segments ≡ writes_in n before) named
          (entry-piece code x.order.slots stands.numbered n p (rows_seen x.rows.rows.items n p).segments (ap (λ h. h.segments) (shaped n p)) before step onward whole)

      reading-is : reads_lane x (Some n) id ≡ is_counted x p (used_here step.id (use_of n step))
      reading-is =
          ap (λ b. reads_seen x (rows_seen x.rows.rows.items n b) b id) place-of
          ∙ ap (λ m. is_counted x p (find (λ r. nat_eq r.id id) (readings_in (rows_seen x.rows.rows.items n p) m))) entry-in
          ∙ ap (λ rs. is_counted x p (find (λ r. nat_eq r.id id) rs)) (pieces n p (writes_in n before))
          ∙ ap (λ ss. is_counted x p (find (λ r. nat_eq r.id id) (readings_of (cut (has n (last_of code p)) n ss) (writes_in n before)))) whole
          ∙ ap (is_counted x p) (first-reading x.order.slots n id step onward named (has n (last_of code p)) 0 before rises)

      abbrev Used : Type 0
      Used = (use_of n step ≡ Certain) ⊎ ((m : ℕ) × (use_of n step ≡ Into m) × Live code p (law.Exit step onward) m)

      among-step : Among step (steps_of code p)
      among-step = subst (Among step) (sym whole) (within before)
        where
          within : (bs : List Step) → Among step (bs ++ step ∷ onward)
          within [] = law.here
          within (b ∷ bs) = law.there (within bs)

      -- a lane into which it is moved is live behind the instruction exactly where the piece there is
      moved-live : (m : ℕ) → use_of n step ≡ Into m → (is_live (causes x.rows.rows.items m p (piece_of x.order.slots (exit_rank x.order.slots step.id) (shapes x.rows.rows.items m p))) ≡ true) ↔ Live code p (law.Exit step onward) m
      moved-live m u =
          let z = (each-matched p step among-step).filled n m u in
          let wrote : is_written m step ≡ true = ap (λ (o : Option LaneDef). is_present o) z.1 in
          let piece : piece_of x.order.slots (exit_rank x.order.slots step.id) (shapes x.rows.rows.items m p) ≡ writes_in m (before ++ step ∷ []) = sym (piece-shape x.order.slots (exit_rank x.order.slots step.id) (rows_seen x.rows.rows.items m p)) ∙ exit-piece code x.order.slots stands.numbered m p (rows_seen x.rows.rows.items m p).segments (ap (λ h. h.segments) (shaped m p)) before step onward whole in
          let told = writing-law code (causes x.rows.rows.items) each-matched grown m p before step onward whole wrote in (
            (λ h. same-back code (quiet t f x computed rules last) (told.0 (sym (ap (λ j. is_live (causes x.rows.rows.items m p j)) piece) ∙ h))),
            (λ h. ap (λ j. is_live (causes x.rows.rows.items m p j)) piece ∙ told.1 (same-forth code (quiet t f x computed rules last) h (before, whole))),
          )

      used-is : (u : Use) → use_of n step ≡ u → (is_counted x p (used_here step.id u) ≡ true) ↔ Used
      used-is Unused e = ((λ h. absurd (cc)), go)
        where
          go : Used → false ≡ true
          go (inl h) = absurd (cc)
          go (inr z) = absurd (let h = z.1 in cc)
      used-is Certain e = ((λ h. inl e), (λ h. refl))
      used-is (Into m) e = ((λ h. inr (m, e, (moved-live m e).0 h)), go)
        where
          lane-same : (j : ℕ) → use_of n step ≡ Into j → m ≡ j
          lane-same j g = into-same m j (sym e ∙ g)
            where
              into-same : (a c : ℕ) → Into a ≡ Into c → a ≡ c
              into-same a c h = cc

          go : Used → is_live (causes x.rows.rows.items m p (piece_of x.order.slots (exit_rank x.order.slots step.id) (shapes x.rows.rows.items m p))) ≡ true
          go (inl h) = absurd (cc)
          go (inr (j, g, h)) = (moved-live m e).1 (subst (λ c. Live code p (law.Exit step onward) c) (sym (lane-same j g)) h)

      pub reads-used : (reads_lane x (Some n) id ≡ true) ↔ Used
      reads-used = let z = used-is (use_of n step) refl in ((λ h. z.0 (sym reading-is ∙ h)), (λ h. reading-is ∙ z.1 h))

    -- the item of the instruction, and the code behind it

    module _ (l : Lane) (still : is_slot l ≡ false) (free : is_reserved t l ≡ false) where
      abbrev spot-of : Spot t f id f.blocks p k
      spot-of = s t f x computed rules last id p k at

      abbrev numbers : IsNumbered t f num
      numbers = numbered t f x computed rules last

      abbrev item : Item
      item = point_item t f block instr

      abbrev behind : Places
      behind = map (point_item t f block) (drop (suc k) block.instrs) ++ (block_end t f block spot-of.after ∷ blocks_code (point_item t f) t f spot-of.after)

      code-is : from_instr t f id f.blocks ≡ item ∷ behind
      code-is = first-is t f num rules numbers l id p k spot-of

      within : Member instr block.instrs
      within = inside t f num rules numbers l id p k spot-of

      onward-is : map (instr_step t f num) (drop (suc k) block.instrs) ≡ onward
      onward-is = sym (ap (drop (suc k)) (steps-at t f num rules numbers p block spot-of.place) ∙ drop-map (instr_step t f num) (suc k) block.instrs)

      stands-at : At (is_reserved t) (tag_of num (is_proper t)) (number_at f.blocks) C code p behind onward
      stands-at = subst (λ ss. At (is_reserved t) (tag_of num (is_proper t)) (number_at f.blocks) C code p behind ss) onward-is (rest t f num rules numbers l id p k spot-of (suc k))

      abbrev tag : Option ℕ
      tag = tag_of num (is_proper t) l

      none-here : {P : Type 0} → tag ≡ None → (P → (n : ℕ) × (tag ≡ Some n)) → (false ≡ true) ↔ P
      none-here e g = ((λ h. absurd (cc)), (λ h. absurd (let z = g h in let y : None ≡ Some z.0 = sym e ∙ z.1 in cc)))

      written-told : (q : Option ℕ) → tag ≡ q → (is_some (begun_at x q id) ≡ true) ↔ Writing item l
      written-told None e = none-here e (written-number t f num rules numbers p block spot-of.place instr within l still free)
      written-told (Some n) e =
          let z = writes t f num rules numbers p block spot-of.place instr within behind onward stands-at l n still e in
          of-same (is_some (begun_at x (Some n) id)) (is_written n step) (written-is n) z

      early-told : (q : Option ℕ) → tag ≡ q → (is_early (begun_at x q id) ≡ true) ↔ WritingEarly item l
      early-told None e = none-here e (λ w. written-number t f num rules numbers p block spot-of.place instr within l still free (w.0, w.1, w.2))
      early-told (Some n) e =
          let z = early t f num rules numbers p block spot-of.place instr within behind onward stands-at l n still e in
          of-same (is_early (begun_at x (Some n) id)) (step_early n step) (early-is n) z

      reading-told : (q : Option ℕ) → tag ≡ q → (reads_lane x q id ≡ true) ↔ Reading (is_reserved t) C l item behind
      reading-told None e = none-here e (read-number t f num rules numbers p block spot-of.place instr within behind l still free)
      reading-told (Some n) e =
          let z = counts t f num rules numbers p block spot-of.place instr within behind onward stands-at l n still e in
          let y = reads-used n in
          ((λ h. z.1 (y.0 h)), (λ h. y.1 (z.0 h)))

      pub tells-written : (is_some (begun_at x tag id) ≡ true) ↔ AtInstr t f id (λ i c. Writing i l)
      tells-written = subst (λ c. (is_some (begun_at x tag id) ≡ true) ↔ AtFirst (λ i q. Writing i l) c) (sym code-is) (written-told tag refl)

      pub tells-early : (is_early (begun_at x tag id) ≡ true) ↔ AtInstr t f id (λ i c. WritingEarly i l)
      tells-early = subst (λ c. (is_early (begun_at x tag id) ≡ true) ↔ AtFirst (λ i q. WritingEarly i l) c) (sym code-is) (early-told tag refl)

      pub tells-reading : (reads_lane x tag id ≡ true) ↔ AtInstr t f id (Reading (is_reserved t) (points_of t f) l)
      tells-reading =
          subst (λ P. (reads_lane x tag id ≡ true) ↔ AtInstr t f id (Reading (is_reserved t) P l)) (sym (points-are t f num rules numbers))
          (subst (λ c. (reads_lane x tag id ≡ true) ↔ AtFirst (Reading (is_reserved t) C l) c) (sym code-is) (reading-told tag refl))

pub acts-law : ActsLaw
acts-law t f x computed rules last = record {
  ordered = (inside-law t f x computed rules last).ordered;
  reads = in-order t f x computed rules last;
  written = λ l still free id p k at. tells-written t f x computed rules last id p k at l still free;
  early = λ l still free id p k at. tells-early t f x computed rules last id p k at l still free;
  reading = λ l still free id p k at. tells-reading t f x computed rules last id p k at l still free;
}
