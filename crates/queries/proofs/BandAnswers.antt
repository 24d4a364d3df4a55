-- What a question and bat-time answer that are not refused for their arguments or their head.
use Prim.Native.Nat.{ℕ, ◌-◌, ◌≤◌, ◌<◌}
use native.Mathlib.Omega.{arith}
use mathlib.Core.Path.{◌≡◌, refl, ap, ap₂, sym, ◌∙◌}
use mathlib.Core.Bool.{Bool, true, false}
use Rattle.std.specs.Prelude.{Result}
use Rattle.words.specs.Words.{key_limit}
use Rattle.tree.specs.declared.types.Lookup.{Lookup}
use Rattle.tree.specs.declared.types.SpoiledPage.{SpoiledPage}
use Rattle.store.specs.declared.types.Answer.{Answer}
use Rattle.store.specs.declared.types.Answer.TheVariants.{Refused, BatTime}
use Rattle.tree.proofs.Main.{UseFits}
use Rattle.store.specs.declared.types.TreeName.{TreeName}
use Rattle.store.specs.declared.types.TreeName.TheVariants.{Starts, Ends, Time}
use Rattle.store.specs.Trees.{Store, tree_in}
use Rattle.store.specs.Calls.{question, bat_time}
use Rattle.store.specs.Refusals.{first_met}
use Rattle.store.specs.Grounds.{question_grounds}
use Rattle.store.specs.Reading.{bat_time_total}
use Rattle.store.specs.Performing.{totals, page_grounds, served, perform}
use Rattle.store.proofs.ArgumentFacts.{Asked, asked}
use Rattle.refusals.specs.Grounds.{earlier, head_grounds}
use Rattle.refusals.proofs.RefusalParts.{arguments_pass, head_passes}
use Rattle.bands.specs.Bands.{without, in_band, band_before}
use Rattle.bands.proofs.BandLookups.{Bands, later_spoiled, earlier_spoiled, both_found, bands}
use Rattle.found_answers.specs.FoundAnswers.{answer_of, time_of}
use Rattle.queries.specs.QueryCalls.{query_call}
use Rattle.refusals.proofs.ReadAnswers.{head_refuses, pages_refuse, pages_answer}

-- Both take the arguments of a question, and are refused alike for them and for the head
pub query_refused : (s : Store) (time : Bool) (k1 k2 t1 t2 : ℕ) {input head : ℕ} → input ≡ first_met (question_grounds k1 k2 t1 t2)
    → head ≡ earlier input (first_met (head_grounds s)) → (head ≡ 0 → ⊥) → Refused head ≡ (perform s (query_call time k1 k2 t1 t2)).answer
query_refused s true k1 k2 t1 t2 of_input of_head some = head_refuses s (bat_time k1 k2 t1 t2) refl of_input of_head some
query_refused s false k1 k2 t1 t2 of_input of_head some = head_refuses s (question k1 k2 t1 t2) refl of_input of_head some

-- Which of them it is
pub is_query_lem : (s : Store) {time known : Bool} (k1 k2 t1 t2 : ℕ) → time ≡ known → (perform s (query_call known k1 k2 t1 t2)).answer ≡ (perform s (query_call time k1 k2 t1 t2)).answer
is_query_lem s k1 k2 t1 t2 e = sym (ap (λ (x : Bool). (perform s (query_call x k1 k2 t1 t2)).answer) e)

module _ (s : Store) (k1 k2 t1 t2 : ℕ) {input head : ℕ} (of_input : input ≡ first_met (question_grounds k1 k2 t1 t2))
    (of_head : head ≡ earlier input (first_met (head_grounds s))) (none : head ≡ 0) where
  ask : Asked k1 k2 t1 t2
  ask = asked k1 k2 t1 t2 (arguments_pass s (question k1 k2 t1 t2) refl of_input of_head none)

  pub some_ticks : t1 < t2
  some_ticks = ask.ticks

  -- The band has a key, and the use of each tree fits what is lent of it
  pub some_keys : k1 < k2
  some_keys = ask.band

  pub keys_bound : k2 ≤ key_limit
  keys_bound = ask.high

  pub use_fits : (name : TreeName) → UseFits (tree_in s name)
  use_fits = (head_passes s (question k1 k2 t1 t2) refl of_input of_head none).trees

  abbrev answer_by : Result Lookup SpoiledPage → Result Lookup SpoiledPage → Answer
  answer_by starts ends = answer_of (without starts ends)

  pub question_answered : answer_by (in_band (tree_in s Starts) (t2 - 1) k1 k2) (band_before (tree_in s Ends) t1 k1 k2) ≡ (perform s (question k1 k2 t1 t2)).answer
  unfolding first_met served
  question_answered = go (bands s Starts Ends k1 k2 t1 t2 ask)
    where
      refused : {n : ℕ} → n ≡ first_met (page_grounds s (question k1 k2 t1 t2)) → (n ≡ 0 → ⊥) → Refused n ≡ (perform s (question k1 k2 t1 t2)).answer
      refused = pages_refuse s (question k1 k2 t1 t2) refl of_input of_head none refl

      go : Bands s Starts Ends k1 k2 t1 t2 ask
          → answer_by (in_band (tree_in s Starts) (t2 - 1) k1 k2) (band_before (tree_in s Ends) t1 k1 k2) ≡ (perform s (question k1 k2 t1 t2)).answer
      go (later_spoiled met is) = ap (λ (x : Result Lookup SpoiledPage). answer_by x (band_before (tree_in s Ends) t1 k1 k2)) is ∙ refused met (λ f. omega (arith, f))
      go (earlier_spoiled v m met is spoiled) = ap₂ answer_by is spoiled ∙ refused met (λ f. omega (arith, f))
      go (both_found v w m n met is found pages values lines) =
          ap₂ answer_by is found ∙ ap₂ totals values pages ∙ pages_answer s (question k1 k2 t1 t2) refl of_input of_head none refl met

  abbrev time_by : Result Lookup SpoiledPage → Result Lookup SpoiledPage → Answer
  time_by until before = time_of until t2 before t1

  pub bat_time_answered : time_by (in_band (tree_in s Time) (t2 - 1) k1 k2) (band_before (tree_in s Time) t1 k1 k2) ≡ (perform s (bat_time k1 k2 t1 t2)).answer
  unfolding first_met served bat_time_total
  bat_time_answered = go (bands s Time Time k1 k2 t1 t2 ask)
    where
      refused : {n : ℕ} → n ≡ first_met (page_grounds s (bat_time k1 k2 t1 t2)) → (n ≡ 0 → ⊥) → Refused n ≡ (perform s (bat_time k1 k2 t1 t2)).answer
      refused = pages_refuse s (bat_time k1 k2 t1 t2) refl of_input of_head none refl

      go : Bands s Time Time k1 k2 t1 t2 ask
          → time_by (in_band (tree_in s Time) (t2 - 1) k1 k2) (band_before (tree_in s Time) t1 k1 k2) ≡ (perform s (bat_time k1 k2 t1 t2)).answer
      go (later_spoiled met is) = ap (λ (x : Result Lookup SpoiledPage). time_by x (band_before (tree_in s Time) t1 k1 k2)) is ∙ refused met (λ f. omega (arith, f))
      go (earlier_spoiled v m met is spoiled) = ap₂ time_by is spoiled ∙ refused met (λ f. omega (arith, f))
      go (both_found v w m n met is found pages values lines) =
          ap₂ time_by is found ∙ ap₂ BatTime (lines (t2 - 1) (t1 - 1)) pages ∙ pages_answer s (bat_time k1 k2 t1 t2) refl of_input of_head none refl met
