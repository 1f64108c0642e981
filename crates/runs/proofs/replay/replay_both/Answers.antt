-- Each run keeps the law, and their reads agree.
use Rattle.runs.proofs.Agreeing.{agree}
use Rattle.runs.proofs.replay.replay_both.Goals as goal

pub returns : goal.returns
returns g c =
    record {
      left = c.replay-first.ensures.law;
      right = c.replay-second.ensures.law;
      agree = agree _ _ _ _ _ _ _ _ c.replay-first.ensures.law.1.reads c.replay-second.ensures.law.1.reads;
      answers = c.replay-first.ensures.rest;
      replies = c.replay-second.ensures.rest;
      answer_places = c.replay-first.ensures.places;
      reply_places = c.replay-second.ensures.places;
    }
