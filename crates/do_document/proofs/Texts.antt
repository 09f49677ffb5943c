-- A text that must stand at a key and pass a test.
use Rattle.std.proofs.Common.{◌≡◌, ℕ, List, Option, Some, None, Bool, true, false, refl, inl, inr}
use Rattle.toml.specs.Data.{Data, Members, as_str, get_member}
use Rattle.do_document.specs.Checks.{is_text, is_text_with, misfit, missing, required}
use Rattle.do_document.specs.{Document.text_at, Paths.path, declared.place.Place.Place}
use Rattle.do_document.specs.declared.fault.WorldFault.{WorldFault, TheVariants.Wrong}
use Rattle.do_document.proofs.InOrder.{Is, Tells, required_failed, required_passed}

module _ (place : Place) (key : List ℕ) (test : List ℕ → Bool) (t : Members) where
  -- what stands there is no text, which is wrong whatever the test
  no_text : (d : Data) (s : Option (List ℕ)) (e : WorldFault) → get_member key t ≡ Some d
      → as_str d ≡ s → Tells (required place key is_text t) e
      → Tells (required place key (is_text_with test) t) e
  unfolding required missing misfit
  no_text d None e there is h = rw (there, is) (rw (there, is) at h)
  no_text d (Some s) e there is (inl m) = inl m
  no_text d (Some s) e there is (inr h) = let never = rw (there, is) at h in cc

  -- nothing stands there, or no text
  missing_by : (o : Option Data) (e : WorldFault) → get_member key t ≡ o
      → Tells (required place key is_text t) e
      → Tells (required place key (is_text_with test) t) e
  unfolding required missing misfit
  missing_by None e there h = rw there (rw there at h)
  missing_by (Some d) e there h = no_text d (as_str d) e there refl h

  -- no text stands there
  pub text_missing : (e : WorldFault) → Tells (required place key is_text t) e
      → Tells (required place key (is_text_with test) t) e
  text_missing e h = missing_by (get_member key t) e refl h

  module _ (s : List ℕ) (text : text_at key t ≡ Some s) where
    -- the value at the key is that text
    failed_by : (o : Option Data) (e : WorldFault) → get_member key t ≡ o → test s ≡ false
        → Is (Wrong (path place key)) e → Tells (required place key (is_text_with test) t) e
    unfolding text_at
    failed_by None e there fails is = let never = rw there at text in cc
    failed_by (Some d) e there fails is =
        required_failed place key test t d s e there (rw there at text) fails is

    -- the text that stands there fails the test
    pub text_failed : (e : WorldFault) → test s ≡ false → Is (Wrong (path place key)) e
        → Tells (required place key (is_text_with test) t) e
    text_failed e fails is = failed_by (get_member key t) e refl fails is

    -- the value at the key is that text
    passed_by : (o : Option Data) → get_member key t ≡ o → test s ≡ true
        → required place key (is_text_with test) t ≡ None
    unfolding text_at
    passed_by None there passes = let never = rw there at text in cc
    passed_by (Some d) there passes =
        required_passed place key test t d s there (rw there at text) passes

    -- the text that stands there passes the test
    pub text_passed : test s ≡ true → required place key (is_text_with test) t ≡ None
    text_passed passes = passed_by (get_member key t) refl passes
