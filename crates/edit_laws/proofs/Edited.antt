-- An edit changes the live points of no lane but those that it concerns and those that lead to them.
use Rattle.std.proofs.Common.{◌≡◌, ◌∷◌, ◌⊎◌, ◌∙◌, ℕ, Bool, true, false, List, [], refl, sym, ap, inl, inr}
use Rattle.std.specs.Prelude.{nat_eq}
use Rattle.std.proofs.lemmas.Bool.{eq-eqb, eqb-true}
use Rattle.target_base.specs.declared.types.OpId.{OpId}
use Rattle.target_base.specs.declared.types.Target.{Target}
use Rattle.target_base.specs.Rules.{is_phi}
use Rattle.meaning.specs.declared.types.Lane.{Lane}
use Rattle.meaning.specs.Live.{Among}
use Rattle.mir_func.specs.declared.func.Block.{Block}
use Rattle.mir_func.specs.declared.func.Gap.{Gap}
use Rattle.mir_func.specs.declared.func.Instr.{Instr}
use Rattle.mir_func.specs.declared.func.Operand.{Operand}
use Rattle.mir_func.specs.Value.{Function}
use Rattle.mir_func.specs.Edits.{block_place, made}
use Rattle.mir_func.specs.Binding.{does, is_terminator}
use Rattle.mir_meaning.specs.Points.{Point, Start, Entry, Exit, from_instr, point_item, points_of}
use Rattle.edit_laws.specs.Named.{is_one, copied}
use Rattle.edit_laws.specs.Edits.{Edit, Put, Replace, Erase, edited, with_op, Stands, before, after, KeepsWays, is_of}
use Rattle.edit_laws.specs.Laws.{IsSameBut, LeadsToEdit, EditedLaw, LeadingLaw, EditsLaw}
use Rattle.edit_laws.specs.Treated.{alike_at, treat_alike}
use Rattle.edit_laws.proofs.Beside.{Beside, Facing, IsClosed}
use Rattle.edit_laws.proofs.Shell.{reads-same, writes-same}
use Rattle.edit_laws.proofs.Aligned.{AreBlocks, IsFree, IsTurned, names-alike, codes-beside, places-facing}
use Rattle.edit_laws.proofs.Placed.{GoesFrom, ComesInto, BothAt, blocks-placed, put-blocks, Named, erase-blocks, Becomes, change-blocks}
use Rattle.edit_laws.proofs.Points.{same-start, same-entry, same-exit}

-- no instruction
abbrev pub Never : Instr → Type 0
Never i = ⊥

abbrev pub NeverBoth : Instr → Instr → Type 0
NeverBoth i j = ⊥

-- an instruction of another id
other-id : (n id m : ℕ) → n ≡ id → nat_eq m id ≡ false → nat_eq n m ≡ false
other-id n id m e h = go (nat_eq n m) refl
  where
    go : (u : Bool) → nat_eq n m ≡ u → u ≡ false
    go true g = absurd (let x : m ≡ id = sym (eqb-true n m g) ∙ e in let z : true ≡ false = sym (eq-eqb m id x) ∙ h in cc)
    go false g = refl

closed : (t : Target) (f : Function) (e : Edit) (b : Block) (i : Instr) → Among b f.blocks → Among i b.instrs → IsClosed (LeadsToEdit t f e) (point_item t f b i)
closed t f e b i m n = λ l a c h one d. copied b i m n h one d

module _ (t : Target) (f : Function) (gap : Gap) (op : OpId) (os : List Operand) (keeps : KeepsWays t f (Put gap op os)) where
  abbrev put-in : Function
  put-in = edited f (Put gap op os)

  abbrev PutLed : Lane → Type 0
  PutLed = LeadsToEdit t f (Put gap op os)

  abbrev IsNew : Instr → Type 0
  IsNew j = j ≡ made f.next_id op os

  abbrev PutGoes : Instr → Type 0
  PutGoes = GoesFrom Never IsNew NeverBoth f.blocks

  abbrev PutComes : Instr → Type 0
  PutComes = ComesInto Never IsNew NeverBoth put-in.blocks

  abbrev PutBoth : Instr → Instr → Type 0
  PutBoth = BothAt Never IsNew NeverBoth f.blocks put-in.blocks

  put-goes : (i : Instr) → PutGoes i → IsFree t f PutLed i
  put-goes i z = absurd z.3

  put-comes : (j : Instr) → PutComes j → IsFree t f PutLed j
  put-comes j z = record {
    phi = ap (does is_phi t) z.3 ∙ keeps.0;
    terminator = ap (does is_terminator t) z.3 ∙ keeps.1;
    names = λ b l n. is_one (after z.0 j (record { block = z.1; instr = z.2; named = ap (λ (x : Instr). x.id) z.3 }) (names-alike (reads-same t f put-in refl b z.0 j) (writes-same t f put-in refl b z.0 j) n));
  }

  put-both : (i j : Instr) → PutBoth i j → IsTurned t f PutLed i j
  put-both i j z = absurd z.6

  put-aligned : AreBlocks PutGoes PutComes PutBoth f.blocks put-in.blocks
  put-aligned = blocks-placed Never IsNew NeverBoth (put-blocks Never IsNew NeverBoth (made f.next_id op os) refl gap.before (block_place gap.block f.blocks) f.blocks)

  put-codes : Beside PutLed (points_of t f) (points_of t put-in)
  put-codes = codes-beside t f put-in refl PutLed PutGoes PutComes PutBoth put-goes put-comes put-both put-aligned (closed t f (Put gap op os))

  put-facing : (id : ℕ) → nat_eq id f.next_id ≡ false → Facing PutLed (from_instr t f id f.blocks) (from_instr t put-in id put-in.blocks)
  put-facing id h =
      places-facing t f put-in refl PutLed PutGoes PutComes PutBoth put-goes put-comes put-both put-aligned (closed t f (Put gap op os)) id
      (λ i z. absurd z.3) (λ j z. other-id j.id f.next_id id (ap (λ (x : Instr). x.id) z.3) h) (λ i j z. absurd z.6)

  put-law : (p : Point) → is_of f.next_id p ≡ false → (l : Lane) → IsSameBut t f put-in p PutLed l
  put-law (Start n) h l = same-start t f put-in PutLed put-codes l n
  put-law (Entry id) h l = same-entry t f put-in PutLed put-codes l id (put-facing id h)
  put-law (Exit id) h l = same-exit t f put-in PutLed put-codes l id (put-facing id h)

module _ (t : Target) (f : Function) (id : ℕ) (keeps : KeepsWays t f (Erase id)) where
  abbrev cut-in : Function
  cut-in = edited f (Erase id)

  abbrev CutLed : Lane → Type 0
  CutLed = LeadsToEdit t f (Erase id)

  abbrev CutNamed : Instr → Type 0
  CutNamed = Named Never NeverBoth id

  abbrev CutGoes : Instr → Type 0
  CutGoes = GoesFrom CutNamed Never NeverBoth f.blocks

  abbrev CutComes : Instr → Type 0
  CutComes = ComesInto CutNamed Never NeverBoth cut-in.blocks

  abbrev CutBoth : Instr → Instr → Type 0
  CutBoth = BothAt CutNamed Never NeverBoth f.blocks cut-in.blocks

  cut-goes : (i : Instr) → CutGoes i → IsFree t f CutLed i
  cut-goes i z =
      let stands : Stands f id z.0 i = record { block = z.1; instr = z.2; named = z.3 } in
      record {
        phi = (keeps z.0 i stands).0;
        terminator = (keeps z.0 i stands).1;
        names = λ b l n. is_one (before z.0 i stands (names-alike (reads-same t f f refl b z.0 i) (writes-same t f f refl b z.0 i) n));
      }

  cut-comes : (j : Instr) → CutComes j → IsFree t f CutLed j
  cut-comes j z = absurd z.3

  cut-both : (i j : Instr) → CutBoth i j → IsTurned t f CutLed i j
  cut-both i j z = absurd z.6

  cut-aligned : AreBlocks CutGoes CutComes CutBoth f.blocks cut-in.blocks
  cut-aligned = blocks-placed CutNamed Never NeverBoth (erase-blocks Never NeverBoth id f.blocks)

  cut-codes : Beside CutLed (points_of t f) (points_of t cut-in)
  cut-codes = codes-beside t f cut-in refl CutLed CutGoes CutComes CutBoth cut-goes cut-comes cut-both cut-aligned (closed t f (Erase id))

  cut-facing : (m : ℕ) → nat_eq m id ≡ false → Facing CutLed (from_instr t f m f.blocks) (from_instr t cut-in m cut-in.blocks)
  cut-facing m h =
      places-facing t f cut-in refl CutLed CutGoes CutComes CutBoth cut-goes cut-comes cut-both cut-aligned (closed t f (Erase id)) m
      (λ i z. other-id i.id id m z.3 h) (λ j z. absurd z.3) (λ i j z. absurd z.6)

  cut-law : (p : Point) → is_of id p ≡ false → (l : Lane) → IsSameBut t f cut-in p CutLed l
  cut-law (Start n) h l = same-start t f cut-in CutLed cut-codes l n
  cut-law (Entry m) h l = same-entry t f cut-in CutLed cut-codes l m (cut-facing m h)
  cut-law (Exit m) h l = same-exit t f cut-in CutLed cut-codes l m (cut-facing m h)

module _ (t : Target) (f : Function) (id : ℕ) (op : OpId) (os : List Operand) (keeps : KeepsWays t f (Replace id op os)) where
  abbrev new-in : Function
  new-in = edited f (Replace id op os)

  abbrev NewLed : Lane → Type 0
  NewLed = LeadsToEdit t f (Replace id op os)

  abbrev NewBecomes : Instr → Instr → Type 0
  NewBecomes = Becomes Never Never id (with_op op os)

  abbrev NewGoes : Instr → Type 0
  NewGoes = GoesFrom Never Never NewBecomes f.blocks

  abbrev NewComes : Instr → Type 0
  NewComes = ComesInto Never Never NewBecomes new-in.blocks

  abbrev NewBoth : Instr → Instr → Type 0
  NewBoth = BothAt Never Never NewBecomes f.blocks new-in.blocks

  new-goes : (i : Instr) → NewGoes i → IsFree t f NewLed i
  new-goes i z = absurd z.3

  new-comes : (j : Instr) → NewComes j → IsFree t f NewLed j
  new-comes j z = absurd z.3

  -- the blocks that they stand in make no difference
  treated-there : (b c : Block) (i j k : Instr) → j ≡ k → (l : Lane) → treat_alike (point_item t f c i) (point_item t f c k) l ≡ treat_alike (point_item t f b i) (point_item t f b j) l
  treated-there b c i j k e l =
      (λ n. alike_at (reads-same t f f refl c b i n) (writes-same t f f refl c b i n) (reads-same t f f refl c b k n) (writes-same t f f refl c b k n) l)
      ∙ ap (λ x. treat_alike (point_item t f b i) (point_item t f b x) l) (sym e)

  one-id : (i j : Instr) → NewBoth i j → i.id ≡ j.id
  one-id i j z = sym (ap (λ (x : Instr). x.id) z.6.1)

  new-both : (i j : Instr) → NewBoth i j → IsTurned t f NewLed i j
  new-both i j z =
      let stands : Stands f id z.0 i = record { block = z.2; instr = z.4; named = z.6.0 } in
      record {
        phi = (keeps z.0 i stands).0;
        phi' = ap (does is_phi t) z.6.1 ∙ (keeps z.0 i stands).1;
        terminator = (keeps z.0 i stands).2 ∙ sym (ap (does is_terminator t) z.6.1);
        differ = λ b l e. is_one (z.0, i, stands, treated-there b z.0 i j (with_op op os i) z.6.1 l ∙ e);
      }

  new-aligned : AreBlocks NewGoes NewComes NewBoth f.blocks new-in.blocks
  new-aligned = blocks-placed Never Never NewBecomes (change-blocks Never Never id (with_op op os) f.blocks)

  new-codes : Beside NewLed (points_of t f) (points_of t new-in)
  new-codes = codes-beside t f new-in refl NewLed NewGoes NewComes NewBoth new-goes new-comes new-both new-aligned (closed t f (Replace id op os))

  new-facing : (m : ℕ) → Facing NewLed (from_instr t f m f.blocks) (from_instr t new-in m new-in.blocks)
  new-facing m =
      places-facing t f new-in refl NewLed NewGoes NewComes NewBoth new-goes new-comes new-both new-aligned (closed t f (Replace id op os)) m
      (λ i z. absurd z.3) (λ j z. absurd z.3) one-id

  new-law : (p : Point) (l : Lane) → IsSameBut t f new-in p NewLed l
  new-law (Start n) l = same-start t f new-in NewLed new-codes l n
  new-law (Entry m) l = same-entry t f new-in NewLed new-codes l m (new-facing m)
  new-law (Exit m) l = same-exit t f new-in NewLed new-codes l m (new-facing m)

pub leading-law : LeadingLaw
leading-law t f (Put gap op os) keeps p h l = put-law t f gap op os keeps p h l
leading-law t f (Replace id op os) keeps p h l = new-law t f id op os keeps p l
leading-law t f (Erase id) keeps p h l = cut-law t f id keeps p h l

other : {A B : Type 0} → (B → ⊥) → A ⊎ B → A
other outside (inl a) = a
other outside (inr b) = absurd (outside b)

pub edited-law : EditedLaw
edited-law t f e keeps p h l outside =
    let s = leading-law t f e keeps p h l in
    record {
      live = ((λ x. other outside (s.live x)), (λ x. other outside (s.live_back x)));
      occupied = ((λ x. other outside (s.occupied x)), (λ x. other outside (s.occupied_back x)));
    }

pub edits-law : EditsLaw
edits-law t f [] keeps p h l outside = record { live = ((λ x. x), (λ x. x)); occupied = ((λ x. x), (λ x. x)) }
edits-law t f (e ∷ es) keeps p h l outside =
    let one = edited-law t f e keeps.0 p h.0 l (λ x. outside (inl x)) in
    let more = edits-law t (edited f e) es keeps.1 p h.1 l (λ x. outside (inr x)) in
    record {
      live = ((λ x. more.live.0 (one.live.0 x)), (λ x. one.live.1 (more.live.1 x)));
      occupied = ((λ x. more.occupied.0 (one.occupied.0 x)), (λ x. one.occupied.1 (more.occupied.1 x)));
    }
