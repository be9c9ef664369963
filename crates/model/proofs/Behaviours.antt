-- A walk with a sieve of any kind is one with its behaviour, and the law of its kind is the law of that.
use Rattle.std.proofs.Common.{◌≡◌, ℕ, List, [], ◌∷◌, ◌++◌, length, Some, None, Option, sym, refl, ap, ◌∙◌, subst}
use Rattle.std.proofs.lemmas.Bool.{both_ways}
use Rattle.model.specs.Tasks.{Task, Lawful}
use Rattle.model.specs.Ledgers.{Ledger, find, Turns}
use Rattle.model.specs.Sieves.{Subject, Rules, Law}
use Rattle.model.specs.Walks.{Place, Walk, reached, missed, opened, exhausted, dropped, failed, found}
use Rattle.model.specs.Behaviours.{Handed, begin, tell, after, behaviour, by_behaviour, Fair, nothing_yet, began, heard, KeepsLaw}
use Rattle.model.specs.Claims.{Walked, dropped_at_once, went, capped, Ends, Answer, turned_down, none, plan, ended, Shows, Searches}
use Rattle.model.proofs.Determined.{Same, determined}

-- ---- a walk by behaviour

pub behaviour_walk : {M : Type 0} {rules : Rules M} {x : Subject} {place : Place} {m n : M} {out : Option (List ℕ)} {o d : ℕ} → Walk rules x place m out o d n → Walk by_behaviour x place (behaviour rules m) out o d (behaviour rules n)
behaviour_walk (reached e goal) = reached e goal
behaviour_walk (missed e miss) = missed e miss
behaviour_walk (opened lt w) = opened lt (behaviour_walk w)
behaviour_walk (exhausted no_more) = exhausted no_more
behaviour_walk (dropped round first why w) = dropped round first why (behaviour_walk w)
behaviour_walk (failed round first keep clear w v) = failed round first keep clear (behaviour_walk w) (behaviour_walk v)
behaviour_walk (found round first keep clear w) = found round first keep clear (behaviour_walk w)

pub behaviour_walks : {M : Type 0} {rules : Rules M} {x : Subject} {m n : M} {out : Option (List ℕ)} {o d : ℕ} → Walked rules x m out o d n → Walked by_behaviour x (behaviour rules m) out o d (behaviour rules n)
behaviour_walks (dropped_at_once e) = dropped_at_once e
behaviour_walks (went e w) = went e (behaviour_walk w)

-- ---- there is one walk

pub walked_once : {M : Type 0} {rules : Rules M} {x : Subject} {m n n2 : M} {out out2 : Option (List ℕ)} {o d o2 d2 : ℕ} → Walked rules x m out o d n → Walked rules x m out2 o2 d2 n2 → Same out o d n out2 o2 d2 n2
walked_once (dropped_at_once e) (dropped_at_once f) = record { shown = refl; opens = refl; drops = refl; left = refl }
walked_once (dropped_at_once e) (went f w) = absurd (both_ways _ f e)
walked_once (went e v) (dropped_at_once f) = absurd (both_ways _ e f)
walked_once {rules = rules} {x = x} (went e v) (went f w) = determined rules x v w

pub ends_with : {M : Type 0} {rules : Rules M} {x : Subject} {m n : M} {out : Option (List ℕ)} {o d opened dropped : ℕ} → Walked rules x m out o d n → opened ≡ capped o → dropped ≡ capped d → Ends rules x m out opened dropped n
ends_with {o = o} {d = d} w opens drops = record {
  o = o;
  d = d;
  walked = w;
  opens = opens;
  drops = drops;
  only = λ out2 o2 d2 n2 v. let s = walked_once v w in (s.shown, s.opens, s.drops, s.left);
}

-- ---- what a search shows, by behaviour

pub behaviour_ends : {M : Type 0} {rules : Rules M} {x : Subject} {m n : M} {out : Option (List ℕ)} {opened dropped : ℕ} → Ends rules x m out opened dropped n → Ends by_behaviour x (behaviour rules m) out opened dropped (behaviour rules n)
behaviour_ends e = ends_with (behaviour_walks e.walked) e.opens e.drops

pub shows_behaviour : {M : Type 0} (rules : Rules M) (x : Subject) (m n : M) (strip : List ℕ) (answer : Answer) (left : List ℕ) → Shows rules x m strip answer n left → Shows by_behaviour x (behaviour rules m) strip answer (behaviour rules n) left
shows_behaviour rules x m n strip (turned_down k) left s = (ap (behaviour rules) s.0, s.1)
shows_behaviour rules x m n strip (none opens drops) left s = (behaviour_ends s.0, s.1)
shows_behaviour rules x m n strip (plan opens drops) left s = (s.0, behaviour_ends s.1, s.2, s.3)

-- ---- the law of a kind, by behaviour

after_more : {M : Type 0} (rules : Rules M) (m : M) (front back : List Handed) → after rules m (front ++ back) ≡ after rules (after rules m front) back
after_more rules m [] back = refl
after_more rules m (begin x ∷ front) back = after_more rules (rules.begun m x) front back
after_more rules m (tell s t ∷ front) back = after_more rules (rules.told m s t) front back

module _ {M : Type 0} {rules : Rules M} {whole kept : M → Type 0} (law : Law rules whole kept) (m : M) (stands : whole m) where
  -- after what was handed over fairly: whole, and once begun also kept, with the subject begun last
  abbrev Good : Option Subject → M → Type 0
  Good None n = whole n
  Good (Some x) n = kept n × (rules.subject n ≡ Some x)

  good_whole : (last : Option Subject) (n : M) → Good last n → whole n
  good_whole None n g = g
  good_whole (Some x) n g = law.sound n g.0

  fair_good : {last : Option Subject} {handed : List Handed} → Fair last handed → Good last (after rules m handed)
  fair_good nothing_yet = stands
  fair_good (began {last} {handed} x before ok) =
      subst (Good (Some x)) (sym (after_more rules m handed (begin x ∷ [])))
      (law.leaves (after rules m handed) x (good_whole last (after rules m handed) (fair_good before)) ok, law.begins (after rules m handed) x)
  fair_good (heard {x} {handed} s t fair st no_way) =
      let g = fair_good fair in
      subst (Good (Some x)) (sym (after_more rules m handed (tell s t ∷ []))) (law.keeps (after rules m handed) x s t g.0 g.1 st no_way, law.stays (after rules m handed) s t ∙ g.1)

  pub behaviour_law : KeepsLaw (behaviour rules m)
  behaviour_law = record {
    subject = λ x handed fair. (fair_good fair).1;
    standings = λ x handed fair s t e. let g = fair_good fair in (law.standings (after rules m handed) x s t g.0 g.1 e).1;
    starts = λ x handed fair s t r e. let g = fair_good fair in (law.starts (after rules m handed) x s t r g.0 g.1 e).1;
  }

-- ---- a search with a sieve of any kind

-- what a search of any kind of sieve shows makes it a search of a list, with the behaviour of the sieve that it brought
pub searches_by : {M : Type 0} {rules : Rules M} {whole kept : M → Type 0} → Law rules whole kept → (m n : M) → whole m → (l : Ledger) (b : Task) (strip : List ℕ) (answer : Answer) (left : List ℕ) (k : Ledger) → Turns l (find b (length strip)) (ended answer) k → Lawful b → Shows rules (record { task = b; card = l }) m strip answer n left → Searches l b (behaviour rules m) strip answer left k
searches_by {rules = rules} law m n stands l b strip answer left k turns lawful shows = record {
  turns = turns;
  lawful = lawful;
  law = behaviour_law law m stands;
  last = behaviour rules n;
  shows = shows_behaviour rules (record { task = b; card = l }) m n strip answer left shows;
}
