-- Worked rows: edits of a small function, of which one is erased first and goes last.
use Rattle.std.specs.Prelude.{◌≡◌, List, [], ◌∷◌, ◌++◌, Some}
use Rattle.target_base.specs.Numbers.{op_number}
use Rattle.edit_laws.specs.Deferred.{all_deferred, all_deleted, all_gone, SpareGone}
use Rattle.edit_laws.specs.Edits.{Edit, Put, Erase, all_edited}
use Rattle.edit_laws.specs.Rows.{COPY, STORE32mr, def, function, head, instr, put_copy, sample, store, tail, val}

-- the store goes, and a copy comes behind it
abbrev pub erase_and_put : List Edit
erase_and_put = Erase 3 ∷ Put (record { block = 0; before = Some 4 }) (op_number COPY) (def 3 ∷ val 2 ∷ []) ∷ []

-- the store stands before the copy until it goes at last
abbrev pub DeferredMake : Type 0
DeferredMake =
    (all_deferred sample erase_and_put ≡ function 7 (head ++ (instr 3 STORE32mr (store 2) ∷ instr 6 COPY (def 3 ∷ val 2 ∷ []) ∷ tail 1)))
    × (all_gone [] erase_and_put ≡ 3 ∷ [])
    × (all_deleted (all_deferred sample erase_and_put) (3 ∷ []) ≡ function 7 (head ++ (instr 6 COPY (def 3 ∷ val 2 ∷ []) ∷ tail 1)))
    × (all_edited sample erase_and_put ≡ function 7 (head ++ (instr 6 COPY (def 3 ∷ val 2 ∷ []) ∷ tail 1)))

-- these edits leave the erased store; a copy that is put before it doesn't
abbrev pub PutsSpare : Type 0
PutsSpare = SpareGone [] sample erase_and_put × (SpareGone [] sample (Erase 3 ∷ put_copy ∷ []) → ⊥)
