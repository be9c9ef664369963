-- What holds of every list of calls on a card, and of each search among them.
use Rattle.std.proofs.Common.{◌≡◌, ℕ, ◌<◌, true, List, [], ◌∷◌, ◌++◌, map, length, get_or, take, drop, Some, Option, sym, refl, ap, ◌∙◌, subst, ⊎_elim, append_assoc, append-nil, arith, get_or-take}
use mathlib.Core.Path.{fun_ext}
use lib.Seq.{take-append_seam}
use Rattle.std.proofs.lemmas.Bool.{cases_order}
use Rattle.model.specs.Tasks.{Task}
use Rattle.model.specs.Plans.{Before}
use Rattle.model.specs.Ledgers.{Ledger, Turns, after, verdict, verdicts}
use Rattle.model.specs.Bookings.{Sound, Serves}
use Rattle.model.specs.Sieves.{Subject, Genuine}
use Rattle.model.specs.Behaviours.{Handed, begin, tell, Behaviour, by_behaviour, Fair, nothing_yet, began, heard, KeepsLaw}
use Rattle.model.specs.Claims.{Walked, dropped_at_once, went, Answer, turned_down, none, plan, Event, booked, released, stretched, searched, call, verdict_of, Searches, Step, Handled, new, next_call, after_calls, FirstPlan, Right, Agree, SameCard, SearchOf, SearchRight, EveryList}
use Rattle.model.proofs.Ledgers.{turns_from}
use Rattle.model.proofs.Bookings.{opening_sound, turn_sound}
use Rattle.model.proofs.Spaces.{law_of_gaps}
use Rattle.model.proofs.Judged.{Outcome, Sound as Trusted, judged, beginning, none_serves, first_serves}

-- ---- the card

step_turns : (l k : Ledger) (e : Event) → Step l e k → Turns l (call e) (verdict_of e) k
step_turns l k (booked a t v) step = step
step_turns l k (released a t v) step = step
step_turns l k (stretched n v) step = step
step_turns l k (searched b sieve strip answer left) step = step.turns

pub shown : (events : List Event) (l : Ledger) → Handled events l → (l ≡ after_calls events) × (map verdict_of events ≡ verdicts (map call events))
shown events l new = (refl, refl)
shown events k (next_call {events = old} {l = l} e h step) =
    let was = shown old l h in
    let turn = turns_from l (call e) (verdict_of e) k (step_turns l k e step) in (
      turn.1 ∙ ap (λ (n : Ledger). after n (call e)) was.0,
      λ i. (turn.0 ∙ ap (λ (n : Ledger). verdict n (call e)) was.0) i ∷ was.1 i,
    )

pub handled_sound : (events : List Event) (l : Ledger) → Handled events l → Sound l
handled_sound events l new = opening_sound
handled_sound events k (next_call {events = old} {l = l} e h step) =
    turn_sound l k (call e) (verdict_of e) (handled_sound old l h) (step_turns l k e step)

-- ---- the sieve that a search brings

-- what a brought sieve has become in a search on x: it was handed a fair list, in which x was begun last
pub record Became (sieve : Behaviour) (x : Subject) (m : Behaviour) : Type 0 where
  pub handed : List Handed
  pub fair : Fair (Some x) handed
  pub is : m ≡ (λ rest. sieve (handed ++ rest))

module _ (sieve : Behaviour) (x : Subject) where
  now : (m : Behaviour) (a : Became sieve x m) → m [] ≡ sieve a.handed
  now m a = ap (λ (f : Behaviour). f []) a.is ∙ ap sieve (append-nil a.handed)

  pub trusted : KeepsLaw sieve → Trusted by_behaviour x (Became sieve x)
  trusted law = record {
    keeps = λ m state t a st no_way. record {
      handed = a.handed ++ (tell state t ∷ []);
      fair = heard state t a.fair st no_way;
      is = fun_ext (λ rest. ap (λ (f : Behaviour). f (tell state t ∷ rest)) a.is ∙ ap sieve (sym (append_assoc a.handed (tell state t ∷ []) rest)));
    };
    standings = λ m state t a e. law.standings x a.handed a.fair state t (subst (λ s. s.drops_standing state t ≡ true) (now m a) e);
    starts = λ m state t round a e. law.starts x a.handed a.fair state t round (subst (λ s. s.drops_start state t round ≡ true) (now m a) e);
  }

  begun_now : Genuine x → Became sieve x (λ rest. sieve (begin x ∷ rest))
  begun_now ok = record { handed = begin x ∷ []; fair = began x nothing_yet ok; is = refl }

  pub outcome : Genuine x → KeepsLaw sieve → {out : Option (List ℕ)} {o d : ℕ} {last : Behaviour} → Walked by_behaviour x sieve out o d last → Outcome x x.task.initial 0 out
  outcome ok law (dropped_at_once e) = law.standings x (begin x ∷ []) (began x nothing_yet ok) x.task.initial 0 e
  outcome ok law (went e w) = (judged (trusted law) ok w (begun_now ok) (beginning x ok)).0

-- ---- what a search says

pub says : (l : Ledger) (b : Task) (sieve : Behaviour) (strip : List ℕ) (answer : Answer) (left : List ℕ) (k : Ledger) → Sound l → Searches l b sieve strip answer left k → Right l b answer left
says l b sieve strip (turned_down n) left k sound s = tt
says l b sieve strip (none o d) left k sound s =
    let x : Subject = record { task = b; card = l } in
    let ok : Genuine x = record { lawful = s.lawful; sound = sound } in
    none_serves x (outcome sieve x ok s.law s.shows.0.walked)
says l b sieve strip (plan o d) left k sound s =
    let x : Subject = record { task = b; card = l } in
    let ok : Genuine x = record { lawful = s.lawful; sound = sound } in
    let p : List ℕ = s.shows.0 in
    let first : FirstPlan l b p = first_serves x ok p (outcome sieve x ok s.law s.shows.1.walked) in
    let written : take l.rounds left ≡ p = ap (take l.rounds) s.shows.3 ∙ subst (λ n. take n (p ++ drop (length p) strip) ≡ p) s.shows.2 (take-append_seam p (drop (length p) strip)) in
    subst (FirstPlan l b) (sym written) first

-- ---- a search of a list

-- the card before an event of the list
record BeforeIt (e : Event) (earlier : List Event) : Type 0 where
  was : Ledger
  is : Ledger
  handled : Handled earlier was
  step : Step was e is

find_it : (later : List Event) (e : Event) (earlier : List Event) (l : Ledger) → Handled (later ++ (e ∷ earlier)) l → BeforeIt e earlier
find_it [] e earlier l (next_call {l = was} _ h step) = record { was = was; is = l; handled = h; step = step }
find_it (f ∷ later) e earlier l (next_call {l = was} _ h step) = find_it later e earlier was h

module _ (events : List Event) (l : Ledger) (h : Handled events l) (b : Task) (sieve : Behaviour) (strip : List ℕ) (answer : Answer) (left : List ℕ) (earlier : List Event) (at : SearchOf events b sieve strip answer left earlier) where
  pub search_right : SearchRight (after_calls earlier) b sieve strip answer left
  search_right =
      let it = find_it at.later (searched b sieve strip answer left) earlier l (subst (λ (es : List Event). Handled es l) at.is h) in
      let right : SearchRight it.was b sieve strip answer left = record {
        says = says it.was b sieve strip answer left it.is (handled_sound earlier it.was it.handled) it.step;
        last = it.step.last;
        walks = it.step.shows;
        gaps = (law_of_gaps b it.step.lawful).1;
      } in
      subst (λ (n : Ledger). SearchRight n b sieve strip answer left) (shown earlier it.was it.handled).0 right

-- ---- two searches alike

-- two lists with the same front have the same entry in it
at_front : (p q : List ℕ) (u t : ℕ) → take u p ≡ take u q → t < u → get_or p t 0 ≡ get_or q t 0
at_front p q u t e lt = sym (get_or-take u p t 0 lt) ∙ ap (λ (s : List ℕ). get_or s t 0) e ∙ get_or-take u q t 0 lt

pub one_way : (p q : List ℕ) → Before p q → Before q p → ⊥
one_way p q (t, e, lt) (u, f, gt) =
    ⊎_elim (λ s. let h : get_or q t 0 < get_or p t 0 = subst (λ i. get_or q i 0 < get_or p i 0) (sym s) gt in omega arith)
    (⊎_elim (λ s. let h = at_front q p u t f s in omega arith) (λ s. let h = at_front p q t u e s in omega arith)) (cases_order t u)

serves_same : (l k : Ledger) (b : Task) (p : List ℕ) → SameCard l k → Serves l b p → Serves k b p
serves_same l k b p same (long, valid, holds) = (long ∙ same.rounds, valid, λ x among. holds x (same.more x among))

turn_round : (l k : Ledger) → SameCard l k → SameCard k l
turn_round l k same = record { rounds = sym same.rounds; fewer = same.more; more = same.fewer }

pub agree : (l k : Ledger) (b : Task) → SameCard l k → (answer : Answer) (left : List ℕ) (other : Answer) (last : List ℕ) → Right l b answer left → Right k b other last → Agree l.rounds answer left other last
agree l k b same (turned_down n) left other last r s = tt
agree l k b same (none o d) left (turned_down n) last r s = tt
agree l k b same (none o d) left (none p e) last r s = tt
agree l k b same (none o d) left (plan p e) last r s = r (take k.rounds last) (serves_same k l b _ (turn_round l k same) s.0)
agree l k b same (plan o d) left (turned_down n) last r s = tt
agree l k b same (plan o d) left (none p e) last r s = s (take l.rounds left) (serves_same l k b _ same r.0)
agree l k b same (plan o d) left (plan p e) last r s =
    let mine : List ℕ = take l.rounds left in
    let theirs : List ℕ = take k.rounds last in
    let one : mine ≡ theirs =
    ⊎_elim sym (λ later. ⊎_elim (λ h. h) (λ sooner. absurd (one_way mine theirs later sooner)) (s.1 mine (serves_same l k b mine same r.0)))
    (r.1 theirs (serves_same k l b theirs (turn_round l k same) s.0)) in
    one ∙ ap (λ n. take n last) (sym same.rounds)

-- ---- every list

pub every_list : EveryList
every_list = record {
  shown = shown;
  searches = search_right;
  alike = λ events others l k h g b sieve strip answer left earlier at sieve2 strip2 answer2 left2 earlier2 at2 same.
      agree (after_calls earlier) (after_calls earlier2) b same answer left answer2 left2
      (search_right events l h b sieve strip answer left earlier at).says
      (search_right others k g b sieve2 strip2 answer2 left2 earlier2 at2).says;
}
