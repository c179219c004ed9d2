-- What is coloured.
pub data Ground : Type 0 where
  text : Ground
  background : Ground
