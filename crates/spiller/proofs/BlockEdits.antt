-- The edits of all places make the function after the spill, where they can make what becomes of each place.
use Rattle.std.proofs.Common.{◌≡◌, ◌∷◌, ◌++◌, ◌∙◌, ◌+◌, ◌<◌, ◌&&◌, not, ℕ, suc, Bool, true, false, cond, List, [], Some, refl, sym, ap, subst, length, map, take, arith, append_assoc, append-nil}
use Rattle.std.specs.Prelude.{flat_map, slice_get}
use Rattle.std.specs.List.{list_all, sum_by, zip}
use Rattle.std.proofs.lemmas.List.Sums.{sum_by-cons}
use Rattle.target_base.specs.declared.types.Target.{Target}
use Rattle.meaning.specs.Live.{Among, here, there}
use Rattle.mir_func.specs.declared.func.Block.{Block}
use Rattle.mir_func.specs.declared.func.Instr.{Instr}
use Rattle.mir_func.specs.Value.{Function, IsFunction, id_total}
use Rattle.mir_func.specs.Binding.{does, is_terminator}
use Rattle.mir_meaning.specs.Paths.{has}
use Rattle.mir_meaning.specs.Registers.{has_number}
use Rattle.mir_meaning.specs.Rules.{V5, block_numbers, successors_of, named_blocks}
use Rattle.live_lanes.proofs.Certain.{not-true}
use Rattle.edit_laws.specs.Edits.{Edit}
use Rattle.edit_laws.specs.Further.{with_classes}
use Rattle.edit_laws.proofs.ErasedLast.{total-step}
use Rattle.live_edits.specs.declared.edit.Edit.{Edit as CodeEdit}
use Rattle.live_edits.specs.Runs.{edits_of}
use Rattle.spiller.specs.Setting.{Spilling}
use Rattle.spiller.specs.Rematerialised.{places_from, places_of}
use Rattle.spiller.specs.Spilled.{Change, all_changes, block_changes, change, changes, new_ids, numbered_change, spilled, spilled_block, tinies_of}
use Rattle.spiller.specs.EditLaw.{tiny_classes}
use Rattle.spiller.specs.Planned.{change_edits}
use Rattle.spiller.specs.WholePlan.{gap_at, instrs_of}
use Rattle.spiller.proofs.EditMoves.{After, Holds, In, Leads, leads-then}
use Rattle.spiller.proofs.EditSteps.{Single}
use Rattle.spiller.proofs.PlaceEdits.{Fits, edits-both, length-ids, place-lead, placed}

-- the places are the instructions
pub places-whole : (t : Target) (is : List Instr) → instrs_of (places_from t is) ≡ is
places-whole t [] = refl
places-whole t (i ∷ is) = go (does is_terminator t i) (places-whole t is)
  where
    go : (b : Bool) → instrs_of (places_from t is) ≡ is → instrs_of (cond b ((i ∷ is) ∷ []) ((i ∷ []) ∷ places_from t is)) ≡ i ∷ is
    go true ih = append-nil (i ∷ is)
    go false ih = ap (λ js. i ∷ js) ih

-- what stands in place of a place, where new ids are given
abbrev pub whole : Change → List Instr
whole y = y.before ++ (y.own ++ y.behind)

pub new-ids-same : (s : Spilling) (n c : ℕ) (is : List Instr) → new_ids (numbered_change s n c is) ≡ new_ids (change s n c is)
new-ids-same s n c is = let x : Change = change s n c is in omega (arith, length-ids n x.before, length-ids (n + length x.before) x.behind)

-- the edits of places, whose new instructions get ids from n on, and tinies range numbers from c on
abbrev pub places_edits : Spilling → Block → ℕ → ℕ → List (List Instr) → List CodeEdit
places_edits s b n c [] = []
places_edits s b n c (is ∷ rest) =
    let x = change s n c is in
    change_edits s (gap_at b (is ++ instrs_of rest)) (gap_at b (instrs_of rest)) is x ++ places_edits s b (n + new_ids (numbered_change s n c is)) (c + length x.tinies) rest

abbrev pub blocks_edits : Spilling → ℕ → ℕ → List Block → List CodeEdit
blocks_edits s n c [] = []
blocks_edits s n c (b ∷ bs) =
    let xs = changes s n c (places_of s.target b) in
    places_edits s b n c (places_of s.target b) ++ blocks_edits s (n + sum_by new_ids xs) (c + length (tinies_of xs)) bs

-- edits can make what becomes of each of the places
abbrev pub AllFit : Spilling → List (List Instr) → Type 0
AllFit s ps = (p : List Instr) → Among p ps → (n c : ℕ) → Fits s p (change s n c p)

module _ (s : Spilling) (g : Function) where
  abbrev t : Target
  t = s.target

  to : (es : List Edit) (P : Holds) (pre : List Block) (b : Block) (post : List Block) (js ks left : List Instr) (n m : ℕ) → js ≡ ks → n ≡ m → Leads t es P (In t g pre b post js left n) → Leads t es P (In t g pre b post ks left m)
  to es P pre b post js ks left n m p q h = subst (λ k. Leads t es P (In t g pre b post ks left k)) q (subst (λ xs. Leads t es P (In t g pre b post xs left n)) p h)

  places-lead : (pre : List Block) (b : Block) (post : List Block) (done : List Instr) (n c : ℕ) (ps : List (List Instr)) → AllFit s ps
      → Leads t (edits_of (places_edits s b n c ps)) (In t g pre b post done (instrs_of ps) n) (In t g pre b post (done ++ flat_map whole (changes s n c ps)) [] (n + sum_by new_ids (changes s n c ps)))
  places-lead pre b post done n c [] fits = to [] (In t g pre b post done [] n) pre b post done (done ++ []) [] n (n + 0) (sym (append-nil done)) (omega arith) (λ ds d f p. p)
  places-lead pre b post done n c (is ∷ rest) fits =
      let x : Change = change s n c is in
      let y : Change = numbered_change s n c is in
      let m : ℕ = n + new_ids y in
      let left : List Instr = instrs_of rest in
      let ys : List Change = changes s m (c + length x.tinies) rest in
      let es : List CodeEdit = change_edits s (gap_at b (is ++ left)) (gap_at b left) is x in
      let fs : List CodeEdit = places_edits s b m (c + length x.tinies) rest in
      let start : Holds = In t g pre b post done (is ++ left) n in
      let mid : Holds = In t g pre b post (done ++ whole y) left m in
      let goal : Holds = In t g pre b post ((done ++ whole y) ++ flat_map whole ys) [] (m + sum_by new_ids ys) in
      let first : Leads t (edits_of es) start mid =
      subst (λ k. Leads t (edits_of es) start (In t g pre b post (done ++ placed n x) left k)) (ap (λ k. n + k) (sym (new-ids-same s n c is))) (place-lead s g pre b post done left n is x (fits is here n c)) in
      let both : Leads t (edits_of es ++ edits_of fs) start goal =
      leads-then t start mid goal (edits_of es) (edits_of fs) first (places-lead pre b post (done ++ whole y) m (c + length x.tinies) rest (λ p k. fits p (there k))) in
      let count : m + sum_by new_ids ys ≡ n + sum_by new_ids (y ∷ ys) = omega (arith, sum_by-cons new_ids y ys) in
      subst (λ ks. Leads t ks start (In t g pre b post (done ++ flat_map whole (y ∷ ys)) [] (n + sum_by new_ids (y ∷ ys)))) (sym (edits-both es fs))
      (to (edits_of es ++ edits_of fs) start pre b post ((done ++ whole y) ++ flat_map whole ys) (done ++ flat_map whole (y ∷ ys)) [] (m + sum_by new_ids ys) (n + sum_by new_ids (y ∷ ys)) (append_assoc done (whole y) (flat_map whole ys)) count both)

  -- between blocks: some are edited, and these are left

  abbrev until : List Block → List Block → ℕ → Function
  until pre bs n = record g { blocks = pre ++ bs; next_id = n }

  pub record IsBetween (pre bs : List Block) (n : ℕ) (ds : List ℕ) (d f : Function) : Type 0 where
    pub func : f ≡ until pre bs n
    pub single : Single f
    pub earlier : List Block
    pub kept : d ≡ until earlier bs n
    pub kept_single : Single d
    pub same : block_numbers earlier ≡ block_numbers pre
    pub gone : (id : ℕ) → has id ds ≡ true → (id < n) × (id_total id bs ≡ 0)

  -- each block has another number than those before it
  abbrev pub AreOther : List ℕ → List Block → Type 0
  AreOther ns [] = Unit {0}
  AreOther ns (b ∷ bs) = (has_number ns b.number ≡ false) × AreOther (ns ++ b.number ∷ []) bs

  open-block : (pre : List Block) (b : Block) (bs : List Block) (n : ℕ) → has_number (block_numbers pre) b.number ≡ false → (ds : List ℕ) (d f : Function) → IsBetween pre (b ∷ bs) n ds d f → In t g pre b bs [] b.instrs n ds d f
  open-block pre b bs n fresh ds d f h = record {
    func = h.func;
    single = h.single;
    earlier = h.earlier;
    standing = [];
    kept = h.kept;
    kept_single = h.kept_single;
    same = h.same;
    fresh = fresh;
    gone = λ id m. (let z = h.gone id m in (z.0, omega (arith, z.1, total-step id b bs)));
  }

  numbers-both : (bs cs : List Block) → block_numbers (bs ++ cs) ≡ block_numbers bs ++ block_numbers cs
  numbers-both [] cs = refl
  numbers-both (b ∷ bs) cs = ap (λ ns. b.number ∷ ns) (numbers-both bs cs)

  close-block : (pre : List Block) (b : Block) (bs : List Block) (js : List Instr) (n : ℕ) (ds : List ℕ) (d f : Function) → In t g pre b bs js [] n ds d f → IsBetween (pre ++ (record b { instrs = js }) ∷ []) bs n ds d f
  close-block pre b bs js n ds d f h =
      let c : Block = record b { instrs = js } in
      let k : Block = record b { instrs = h.standing } in
      let whole-block : (pre : List Block) (js : List Instr) → pre ++ (record b { instrs = js ++ [] }) ∷ bs ≡ (pre ++ (record b { instrs = js }) ∷ []) ++ bs =
      (λ pre js. ap (λ xs. pre ++ (record b { instrs = xs }) ∷ bs) (append-nil js) ∙ sym (append_assoc pre ((record b { instrs = js }) ∷ []) bs)) in
      record {
        func = h.func ∙ ap (λ bs. record g { blocks = bs; next_id = n }) (whole-block pre js);
        single = h.single;
        earlier = h.earlier ++ k ∷ [];
        kept = h.kept ∙ ap (λ bs. record g { blocks = bs; next_id = n }) (whole-block h.earlier h.standing);
        kept_single = h.kept_single;
        same = numbers-both h.earlier (k ∷ []) ∙ (ap (λ ns. ns ++ b.number ∷ []) h.same ∙ sym (numbers-both pre (c ∷ [])));
        gone = λ id m. (let z = h.gone id m in (z.0, omega (arith, z.1)));
      }

  after-more : (P Q : Holds) (es : List Edit) (ds : List ℕ) (d f : Function) → ((ds : List ℕ) (d f : Function) → P ds d f → Q ds d f) → After t P es ds d f → After t Q es ds d f
  after-more P Q [] ds d f k h = k ds d f h
  after-more P Q (e ∷ es) ds d f k h = (h.0, h.1, h.2, after-more P Q es _ _ _ k h.3)

  over : (es : List Edit) (P : Holds) (xs ys : List Block) (n m : ℕ) → xs ≡ ys → n ≡ m → Leads t es P (IsBetween xs [] n) → Leads t es P (IsBetween ys [] m)
  over es P xs ys n m p q h = subst (λ k. Leads t es P (IsBetween ys [] k)) q (subst (λ zs. Leads t es P (IsBetween zs [] n)) p h)

  pub blocks-lead : (pre : List Block) (n c : ℕ) (bs : List Block) → AreOther (block_numbers pre) bs → ((b : Block) → Among b bs → AllFit s (places_of t b))
      → Leads t (edits_of (blocks_edits s n c bs)) (IsBetween pre bs n) (IsBetween (pre ++ map spilled_block (zip bs (block_changes s n c bs))) [] (n + sum_by (sum_by new_ids) (block_changes s n c bs)))
  blocks-lead pre n c [] other fits = over [] (IsBetween pre [] n) pre (pre ++ []) n (n + 0) (sym (append-nil pre)) (omega arith) (λ ds d f p. p)
  blocks-lead pre n c (b ∷ bs) other fits =
      let ps : List (List Instr) = places_of t b in
      let xs : List Change = changes s n c ps in
      let m : ℕ = n + sum_by new_ids xs in
      let e : ℕ = c + length (tinies_of xs) in
      let js : List Instr = flat_map whole xs in
      let own : Block = record b { instrs = js } in
      let zs : List (List Change) = block_changes s m e bs in
      let cs : List Block = map spilled_block (zip bs zs) in
      let es : List CodeEdit = places_edits s b n c ps in
      let fs : List CodeEdit = blocks_edits s m e bs in
      let start : Holds = IsBetween pre (b ∷ bs) n in
      let mid : Holds = IsBetween (pre ++ own ∷ []) bs m in
      let goal : Holds = IsBetween ((pre ++ own ∷ []) ++ cs) [] (m + sum_by (sum_by new_ids) zs) in
      let first : Leads t (edits_of es) start mid =
      (λ ds d f p. after-more (In t g pre b bs js [] m) mid (edits_of es) ds d f (λ ds d f q. close-block pre b bs js m ds d f q)
      (places-lead pre b bs [] n c ps (fits b here) ds d f (subst (λ left. In t g pre b bs [] left n ds d f) (sym (places-whole t b.instrs)) (open-block pre b bs n other.0 ds d f p)))) in
      let rest : Leads t (edits_of fs) mid goal = blocks-lead (pre ++ own ∷ []) m e bs (subst (λ ns. AreOther ns bs) (sym (numbers-both pre (own ∷ []))) other.1) (λ c k. fits c (there k)) in
      let count : m + sum_by (sum_by new_ids) zs ≡ n + sum_by (sum_by new_ids) (xs ∷ zs) = omega (arith, sum_by-cons (sum_by new_ids) xs zs) in
      subst (λ ks. Leads t ks start (IsBetween (pre ++ own ∷ cs) [] (n + sum_by (sum_by new_ids) (xs ∷ zs)))) (sym (edits-both es fs))
      (over (edits_of es ++ edits_of fs) start ((pre ++ own ∷ []) ++ cs) (pre ++ own ∷ cs) (m + sum_by (sum_by new_ids) zs) (n + sum_by (sum_by new_ids) (xs ∷ zs)) (append_assoc pre (own ∷ []) cs) count
      (leads-then t start mid goal (edits_of es) (edits_of fs) first rest))

all-other : (s : Spilling) (g : Function) (ns : List ℕ) (bs : List Block) → ((k : ℕ) (b : Block) → slice_get bs k ≡ Some b → has_number (ns ++ block_numbers (take k bs)) b.number ≡ false) → AreOther s g ns bs
all-other s g ns [] h = tt
all-other s g ns (b ∷ bs) h = (
  subst (λ ms. has_number ms b.number ≡ false) (append-nil ns) (h 0 b refl),
  all-other s g (ns ++ b.number ∷ []) bs (λ k c e. subst (λ ms. has_number ms c.number ≡ false) (sym (append_assoc ns (b.number ∷ []) (block_numbers (take k bs)))) (h (suc k) c e)),
)

first-true : (u w : Bool) → u && w ≡ true → u ≡ true
first-true true w h = refl
first-true false w h = h

pub other-number : (f : Function) (k : ℕ) (b : Block) → V5 f k b ≡ true → has_number (block_numbers (take k f.blocks)) b.number ≡ false
unfolding V5
other-number f k b h = not-true (has_number (block_numbers (take k f.blocks)) b.number) (first-true (not (has_number (block_numbers (take k f.blocks)) b.number)) (list_all (has_number (block_numbers f.blocks)) (successors_of b ++ flat_map named_blocks b.instrs)) h)

-- all edits of the function
abbrev pub all_edits : Spilling → List CodeEdit
all_edits s = blocks_edits s s.func.next_id (length s.func.classes) s.func.blocks

-- they lead from the function, with the classes of the tinies, to the function after the spill
abbrev pub Spills : Spilling → Holds
Spills s ds d f = f ≡ spilled s

pub all-lead : (s : Spilling) → IsFunction s.func.blocks s.func.next_id → ((k : ℕ) (b : Block) → slice_get s.func.blocks k ≡ Some b → V5 s.func k b ≡ true) → ((b : Block) → Among b s.func.blocks → AllFit s (places_of s.target b))
    → let g = with_classes s.func (tiny_classes s) in After s.target (Spills s) (edits_of (all_edits s)) [] g g
unfolding spilled
all-lead s single five fits =
    let f : Function = s.func in
    let g : Function = with_classes f (tiny_classes s) in
    let n : ℕ = f.next_id in
    let c : ℕ = length f.classes in
    let cs : List Block = map spilled_block (zip f.blocks (all_changes s)) in
    let m : ℕ = n + sum_by (sum_by new_ids) (all_changes s) in
    after-more s g (IsBetween s g cs [] m) (Spills s) (edits_of (all_edits s)) [] g g
    (λ ds d h p. p.func ∙ ap (λ bs. record g { blocks = bs; next_id = m }) (append-nil cs))
    (blocks-lead s g [] n c f.blocks (all-other s g [] f.blocks (λ k b e. other-number f k b (five k b e))) fits [] g g
    (record { func = refl; single = single; earlier = []; kept = refl; kept_single = single; same = refl; gone = λ id h. absurd (cc) }))
