mod FreeFacts
