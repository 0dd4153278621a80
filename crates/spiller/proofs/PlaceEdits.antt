-- The edits of a place make its change.
use Rattle.std.proofs.Common.{◌≡◌, ◌∷◌, ◌++◌, ◌∙◌, ◌+◌, ℕ, suc, Bool, true, false, cond, List, [], refl, sym, ap, subst, length, arith, add-one, append_assoc, append-nil}
use Rattle.target_base.specs.declared.types.Target.{Target}
use Rattle.meaning.specs.Live.{Among, here, there}
use Rattle.mir_func.specs.declared.func.Block.{Block}
use Rattle.mir_func.specs.declared.func.Instr.{Instr}
use Rattle.mir_func.specs.Value.{Function}
use Rattle.mir_func.specs.Edits.{made}
use Rattle.edit_laws.specs.Edits.{Edit, Put, Replace, Erase, IsPlain, StaysPlain, with_op}
use Rattle.live_edits.specs.declared.edit.Edit.{Edit as CodeEdit}
use Rattle.live_edits.specs.declared.edit.Edit.TheVariants as code_edits
use Rattle.live_edits.specs.Runs.{edits_of}
use Rattle.spiller.specs.Setting.{Spilling}
use Rattle.spiller.specs.Spilled.{Change, new_ids, with_ids}
use Rattle.spiller.specs.Planned.{change_edits, known_op, names_own, own_edits, put_all}
use Rattle.spiller.specs.WholePlan.{gap_at}
use Rattle.spiller.proofs.EditMoves.{Holds, In, Leads, erase-leads, leads-then, pass-leads, put-leads, replace-leads}

pub edits-both : (es fs : List CodeEdit) → edits_of (es ++ fs) ≡ edits_of es ++ edits_of fs
edits-both [] fs = refl
edits-both (e ∷ es) fs = ap (λ xs. edits_of (e ∷ []) ++ xs) (edits-both es fs)

-- an instruction that may be put: it has an opcode and neither flags nor tail, and is neither a phi nor a terminator
pub record IsNew (t : Target) (x : Instr) : Type 0 where
  pub same : x ≡ made x.id (known_op x.op) x.operands
  pub plain : IsPlain t x

abbrev pub AllNew : Target → List Instr → Type 0
AllNew t xs = (x : Instr) → Among x xs → IsNew t x

-- an instruction of a place may become another one
pub record Becomes (s : Spilling) (i x : Instr) : Type 0 where
  pub same : x ≡ with_op (known_op x.op) x.operands i
  pub plain : StaysPlain s.target i x
  pub other : names_own s i ≡ false → x ≡ i

-- those of a place become others, one by one; where there are none, they go
abbrev pub AllBecome : Spilling → List Instr → List Instr → Type 0
AllBecome s [] [] = Unit {0}
AllBecome s [] (x ∷ xs) = ⊥
AllBecome s (i ∷ is) [] = IsPlain s.target i × AllBecome s is []
AllBecome s (i ∷ is) (x ∷ xs) = Becomes s i x × AllBecome s is xs

-- edits can make the change
pub record Fits (s : Spilling) (is : List Instr) (x : Change) : Type 0 where
  pub new_before : AllNew s.target x.before
  pub changed : AllBecome s is x.own
  pub new_behind : AllNew s.target x.behind

-- what stands in place of a place, its new instructions with the ids from n on
abbrev pub placed : ℕ → Change → List Instr
placed n x = with_ids n x.before ++ (x.own ++ with_ids (n + length x.before) x.behind)

pub length-ids : (n : ℕ) (xs : List Instr) → length (with_ids n xs) ≡ length xs
length-ids n [] = refl
length-ids n (x ∷ xs) = ap suc (length-ids (suc n) xs)

module _ (s : Spilling) (g : Function) (pre : List Block) (b : Block) (post : List Block) where
  abbrev t : Target
  t = s.target

  abbrev at : List Instr → List Instr → ℕ → Holds
  at done left n = In t g pre b post done left n

  to : (es : List Edit) (P : Holds) (js ks left : List Instr) (n m : ℕ) → js ≡ ks → n ≡ m → Leads t es P (at js left n) → Leads t es P (at ks left m)
  to es P js ks left n m p q h = subst (λ k. Leads t es P (at ks left k)) q (subst (λ xs. Leads t es P (at xs left n)) p h)

  puts-lead : (done left : List Instr) (n : ℕ) (xs : List Instr) → AllNew t xs → Leads t (edits_of (put_all (gap_at b left) xs)) (at done left n) (at (done ++ with_ids n xs) left (n + length xs))
  puts-lead done left n [] h = to [] (at done left n) done (done ++ []) left n (n + 0) (sym (append-nil done)) (omega arith) (λ ds d f p. p)
  puts-lead done left n (x ∷ xs) h =
      let new : IsNew t x = h x here in
      let m : Instr = made n (known_op x.op) x.operands in
      let own : m ≡ record x { id = n } = sym (ap (λ (y : Instr). record y { id = n }) new.same) in
      let es : List Edit = edits_of (put_all (gap_at b left) xs) in
      let e : Edit = Put (gap_at b left) (known_op x.op) x.operands in
      let rest : Leads t es (at (done ++ m ∷ []) left (n + 1)) (at ((done ++ m ∷ []) ++ with_ids (n + 1) xs) left ((n + 1) + length xs)) = puts-lead (done ++ m ∷ []) left (n + 1) xs (λ y k. h y (there k)) in
      let both : Leads t (e ∷ es) (at done left n) (at ((done ++ m ∷ []) ++ with_ids (n + 1) xs) left ((n + 1) + length xs)) =
      leads-then t (at done left n) (at (done ++ m ∷ []) left (n + 1)) (at ((done ++ m ∷ []) ++ with_ids (n + 1) xs) left ((n + 1) + length xs)) (e ∷ []) es
      (put-leads t g pre b post done left n (known_op x.op) x.operands (subst (IsPlain t) new.same new.plain)) rest in
      to (e ∷ es) (at done left n) ((done ++ m ∷ []) ++ with_ids (n + 1) xs) (done ++ with_ids n (x ∷ xs)) left ((n + 1) + length xs) (n + length (x ∷ xs))
      (append_assoc done (m ∷ []) (with_ids (n + 1) xs) ∙ (λ k. done ++ own k ∷ with_ids (add-one n k) xs)) (omega arith)
      both

  own-lead : (done : List Instr) (is xs left : List Instr) (n : ℕ) → AllBecome s is xs → Leads t (edits_of (own_edits s is xs)) (at done (is ++ left) n) (at (done ++ xs) left n)
  own-lead done [] [] left n h = to [] (at done left n) done (done ++ []) left n n (sym (append-nil done)) refl (λ ds d f p. p)
  own-lead done [] (x ∷ xs) left n h = absurd h
  own-lead done (i ∷ is) [] left n h =
      leads-then t (at done (i ∷ (is ++ left)) n) (at done (is ++ left) n) (at (done ++ []) left n) (Erase i.id ∷ []) (edits_of (own_edits s is []))
      (erase-leads t g pre b post done i (is ++ left) n h.0) (own-lead done is [] left n h.1)
  own-lead done (i ∷ is) (x ∷ xs) left n h = go (names_own s i) refl (λ y. own-lead (done ++ y ∷ []) is xs left n h.1)
    where
      es : List CodeEdit
      es = own_edits s is xs

      e : CodeEdit
      e = code_edits.Replace i.id (known_op x.op) x.operands

      Rest : Type 0
      Rest = (y : Instr) → Leads t (edits_of es) (at (done ++ y ∷ []) (is ++ left) n) (at ((done ++ y ∷ []) ++ xs) left n)

      rest : Rest → (y : Instr) → y ≡ x → Leads t (edits_of es) (at (done ++ y ∷ []) (is ++ left) n) (at (done ++ x ∷ xs) left n)
      rest more y q =
          to (edits_of es) (at (done ++ y ∷ []) (is ++ left) n) ((done ++ y ∷ []) ++ xs) (done ++ x ∷ xs) left n n (append_assoc done (y ∷ []) xs ∙ (λ k. done ++ q k ∷ xs)) refl (more y)

      go : (u : Bool) → names_own s i ≡ u → Rest → Leads t (edits_of (cond u (e ∷ es) es)) (at done (i ∷ (is ++ left)) n) (at (done ++ x ∷ xs) left n)
      go true q more =
          let y : Instr = with_op (known_op x.op) x.operands i in
          leads-then t (at done (i ∷ (is ++ left)) n) (at (done ++ y ∷ []) (is ++ left) n) (at (done ++ x ∷ xs) left n) (Replace i.id (known_op x.op) x.operands ∷ []) (edits_of es)
          (replace-leads t g pre b post done i (is ++ left) n (known_op x.op) x.operands (subst (StaysPlain t i) h.0.same h.0.plain)) (rest more y (sym h.0.same))
      go false q more =
          leads-then t (at done (i ∷ (is ++ left)) n) (at (done ++ i ∷ []) (is ++ left) n) (at (done ++ x ∷ xs) left n) [] (edits_of es)
          (pass-leads t g pre b post done i (is ++ left) n) (rest more i (sym (h.0.other q)))

  pub place-lead : (done left : List Instr) (n : ℕ) (is : List Instr) (x : Change) → Fits s is x
      → Leads t (edits_of (change_edits s (gap_at b (is ++ left)) (gap_at b left) is x)) (at done (is ++ left) n) (at (done ++ placed n x) left (n + new_ids x))
  place-lead done left n is x h =
      let m : ℕ = n + length x.before in
      let first : List Instr = with_ids n x.before in
      let last : List Instr = with_ids m x.behind in
      let es : List CodeEdit = put_all (gap_at b (is ++ left)) x.before in
      let fs : List CodeEdit = own_edits s is x.own in
      let gs : List CodeEdit = put_all (gap_at b left) x.behind in
      let goal : Holds = at (((done ++ first) ++ x.own) ++ last) left (m + length x.behind) in
      let start : Holds = at done (is ++ left) n in
      let after : Leads t (edits_of fs ++ edits_of gs) (at (done ++ first) (is ++ left) m) goal =
      leads-then t (at (done ++ first) (is ++ left) m) (at ((done ++ first) ++ x.own) left m) goal (edits_of fs) (edits_of gs)
      (own-lead (done ++ first) is x.own left m h.changed) (puts-lead ((done ++ first) ++ x.own) left m x.behind h.new_behind) in
      let all : Leads t (edits_of es ++ (edits_of fs ++ edits_of gs)) start goal =
      leads-then t start (at (done ++ first) (is ++ left) m) goal (edits_of es) (edits_of fs ++ edits_of gs) (puts-lead done (is ++ left) n x.before h.new_before) after in
      let same : edits_of es ++ (edits_of fs ++ edits_of gs) ≡ edits_of (es ++ (fs ++ gs)) = ap (λ ks. edits_of es ++ ks) (sym (edits-both fs gs)) ∙ sym (edits-both es (fs ++ gs)) in
      subst (λ ks. Leads t ks start (at (done ++ placed n x) left (n + new_ids x))) same
      (to (edits_of es ++ (edits_of fs ++ edits_of gs)) start (((done ++ first) ++ x.own) ++ last) (done ++ placed n x) left (m + length x.behind) (n + new_ids x)
      (append_assoc (done ++ first) x.own last ∙ append_assoc done first (x.own ++ last)) (omega arith)
      all)
