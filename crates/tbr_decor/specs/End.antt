-- What a decorator closes.
pub data End : Type 0 where
  link : End
  emphasis : End
  strong : End
  strikeout : End
  code : End
  superscript : End
