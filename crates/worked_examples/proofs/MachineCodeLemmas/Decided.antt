-- What a search finds is live, and what no table lists is not.
use Rattle.std.proofs.Common.{◌≡◌, ◌∷◌, ⊎_elim, ℕ, zero, suc, Bool, true, List, subst, drop, length, is_some, []}
use Rattle.std.specs.Prelude.{Decides}
use Rattle.std.specs.List.{list_all}
use Rattle.meaning.specs.Code.{Code}
use Rattle.meaning.specs.Lanes.{same_lane}
use Rattle.meaning.specs.Live.{Live}
use Rattle.meaning.specs.declared.types.Lane.{Lane}
use Rattle.laws.proofs.Flow.{bool_cases}
use Rattle.laws.proofs.Following.{both-true}
use Rattle.laws.proofs.Least.{Ends, behind, whole}
use Rattle.laws.proofs.Quiet.{same-true}
use Rattle.laws.proofs.Tables.{live-listed, or-true}
use Rattle.laws.specs.Tables.{code_listed, lists}
use Rattle.worked_examples.proofs.MachineCodeLemmas.Search.{found_live, table_of, witness}

ends_from : {code : Code} (k : ℕ) (p : Code) → Ends code p → Ends code (drop k p)
ends_from zero p e = e
ends_from (suc k) [] e = e
ends_from (suc k) (i ∷ p) e = ends_from k p (behind e)

-- what one list lists, the other does
within : (ls ms : List Lane) (l : Lane) → list_all (lists ms) ls ≡ true → lists ls l ≡ true → lists ms l ≡ true
within [] ms l a h = absurd (cc)
within (b ∷ bs) ms l a h =
    let p = both-true (lists ms b) (list_all (lists ms) bs) a in
    ⊎_elim (λ e. subst (λ x. lists ms x ≡ true) (same-true b l e) p.0) (λ e. within bs ms l p.1 (or-true (same_lane b l) (lists bs l) h e)) (bool_cases (same_lane b l))

module _ (reserved : Lane → Bool) (code : Code) where
  -- each listed lane is found live at the k-th place
  abbrev pub all_found : ℕ → ℕ → List Lane → Bool
  all_found n k ls = list_all (λ a. is_some (found_live reserved code n (drop k code) a)) ls

  pub found_all : (n : ℕ) (p : Code) (ls : List Lane) (l : Lane) → list_all (λ a. is_some (found_live reserved code n p a)) ls ≡ true → lists ls l ≡ true → Live reserved code p l
  found_all n p [] l a h = absurd (cc)
  found_all n p (b ∷ bs) l a h =
      let q = both-true (is_some (found_live reserved code n p b)) (list_all (λ c. is_some (found_live reserved code n p c)) bs) a in
      ⊎_elim (λ e. subst (Live reserved code p) (same-true b l e) (witness (found_live reserved code n p b) q.0)) (λ e. found_all n p bs l q.1 (or-true (same_lane b l) (lists bs l) h e)) (bool_cases (same_lane b l))

  -- just these lanes are live at the k-th place, by n passes
  pub decided :
      (n k : ℕ) (ls : List Lane) → code_listed reserved code (table_of n reserved code) code ≡ true → list_all (lists ls) (table_of n reserved code (length (drop k code))) ≡ true → all_found n k ls ≡ true → (l : Lane) →
      Decides (lists ls l) (Live reserved code (drop k code) l)
  decided n k ls tested covered found l =
      (found_all n (drop k code) ls l found, (λ h. within (table_of n reserved code (length (drop k code))) ls l covered (live-listed reserved code (table_of n reserved code) tested h (ends_from k code whole))))
